use Rattle.std.proofs.Common.{rules, take, map, get_or, refl, ◌∙◌, ◌≡◌, ◌||◌, ◌&&◌, codes}
use Rattle.std.proofs.lemmas.List.{map_more}
use Rattle.httparse.specs.Spans.{header_bytes}
use Rattle.httparse.specs.declared.spans.HeaderSpan.{HeaderSpan}
use Rattle.al_http.specs.Fields.{is_same_text}
use Rattle.al_http.proofs.FieldLemmas.{close_more}
use Rattle.al_http.proofs.fields.says_close.Goals as goal
use Rattle.al_http.proofs.fields.says_close.Goals.{then-found, else-found+then-named, else-found+else-named}

pub loop-field-preserved : goal.loop-field-preserved
loop-field-preserved c =
    let buf = c.args.buf.now in
    let none : HeaderSpan = record { name = record { start = 0; end = 0 }; value = record { start = 0; end = 0 } } in
    let i = c.loop-field.field-index in
    let p = header_bytes buf (get_or c.args.fields.now i none) in
    let ps = map (header_bytes buf) (take i c.args.fields.now) in
    let found : c.if-found.found ≡ (c.loop-field.found || (c.same_text-named.result && c.same_text-close.result)) = elim c.if-found.branch [
      | then-found w ↦ w.found-is ∙ rw w.if-found.true refl
      | else-found+then-named w ↦ w.found-is ∙ rw (w.if-found.false, w.if-named.true) refl
      | else-found+else-named w ↦ w.found-is ∙ rw (w.if-found.false, w.if-named.false) refl
    ] in
    let named : c.same_text-named.result ≡ is_same_text p.0 (codes "connection") = search rules in
    let close : c.same_text-close.result ≡ is_same_text p.1 (codes "close") = search rules in
    rw (map_more (header_bytes buf) c.args.fields.now i none c.loop-field-test.true, close_more ps p, found, c.loop-field.invariant, named, close) refl
