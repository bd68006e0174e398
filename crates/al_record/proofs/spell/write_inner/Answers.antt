use Rattle.std.proofs.lemmas.Result.{on_ok_weaker}
use Rattle.std.proofs.Common.{map, sym, ap, ◌∙◌}
use Rattle.std.proofs.lemmas.List.{length-map}
use Rattle.al_msgpack.specs.declared.val.Val.TheVariants as values
use Rattle.al_record.specs.Columns.{flat, map_put}
use Rattle.al_record.specs.Code.{listed, put_of, table_of}
use Rattle.al_record.proofs.Appended.{field_behind, map_absent, map_there}
use Rattle.al_record.proofs.spell.write_inner.Goals as goal

pub returns-then-count_written-eq0-clause-bytes : goal.returns-then-count_written-eq0-clause-bytes
returns-then-count_written-eq0-clause-bytes c =
    let rs = table_of c.args.columns.now in
    let os = map put_of c.args.contents.now in
    let same = length-map c.args.columns.now (λ c. flat c.0.now c.1) ∙ c.requires ∙ sym (length-map c.args.contents.now put_of) in
    map_absent c.args.out.now.items c.args.name.now rs os same (sym c.count_written.ensures ∙ c.if-count_written-eq0.true)

pub returns-clause-bytes : goal.returns-clause-bytes
returns-clause-bytes c =
    let rs = table_of c.args.columns.now in
    let os = map put_of c.args.contents.now in
    let same = length-map c.args.columns.now (λ c. flat c.0.now c.1) ∙ c.requires ∙ sym (length-map c.args.contents.now put_of) in
    let some = map_there rs os c.count_written.result same c.count_written.ensures c.if-count_written-eq0.false in
    on_ok_weaker c.write_listed.result (field_behind c.args.out.now.items c.write_string.new.out.items c.write_listed.new.out.items c.args.name.now (map_put (listed rs os)) (values.Map (listed rs os)) some (rw (← c.as_bytes.ensures.value) c.in_ok-write_string.ensures.bytes)) c.write_listed.ensures.bytes
