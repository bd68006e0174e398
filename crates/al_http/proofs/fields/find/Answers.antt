use Rattle.std.proofs.Common.{rules, take, map, get_or, refl}
use Rattle.std.proofs.lemmas.List.{map_more}
use Rattle.httparse.specs.Spans.{header_bytes}
use Rattle.httparse.specs.declared.spans.HeaderSpan.{HeaderSpan}
use Rattle.al_http.proofs.FieldLemmas.{named_first, named_more, named_other}
use Rattle.al_http.proofs.fields.find.Goals as goal
use Rattle.al_http.proofs.fields.find.Goals.{then-same_text+in-Absent, then-same_text+in_default, else-same_text}

pub loop-field-preserved : goal.loop-field-preserved
loop-field-preserved c =
    let buf = c.args.buf.now in
    let name = c.args.name.now in
    let none : HeaderSpan = record { name = record { start = 0; end = 0 }; value = record { start = 0; end = 0 } } in
    let i = c.loop-field.field-index in
    let field = get_or c.args.fields.now i none in
    let ps = map (header_bytes buf) (take i c.args.fields.now) in
    let more = map_more (header_bytes buf) c.args.fields.now i none c.loop-field-test.true in
    elim c.if-same_text.branch [
      | then-same_text+in-Absent w ↦ rw (w.found-is, more) (named_first buf name ps (header_bytes buf field) field.value (search rules) (search rules) refl (search rules))
      | then-same_text+in_default w ↦ rw (w.found-is, more) (named_more buf name ps (header_bytes buf field) c.loop-field.found c.loop-field.invariant w.in_default.not-Absent (search rules))
      | else-same_text w ↦ rw (w.found-is, more) (named_other buf name ps (header_bytes buf field) c.loop-field.found c.loop-field.invariant (search rules))
    ]
