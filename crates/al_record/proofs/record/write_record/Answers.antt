use Rattle.std.proofs.lemmas.Result.{on_ok_weaker}
use Rattle.std.proofs.Common.{sym, ap, ◌∙◌}
use Rattle.al_msgpack.specs.declared.val.Val.TheVariants as values
use Rattle.al_record.specs.Columns.{unless, map_put}
use Rattle.al_record.proofs.Appended.{field_behind}
use Rattle.al_record.proofs.record.write_record.Goals as goal

pub returns-clause-bytes : goal.returns-clause-bytes
returns-clause-bytes g c =
    let es = g.R.Record.format.write c.args.value.now in
    let some = ap (λ b. unless b (values.Map es)) (sym c.is_empty.ensures ∙ c.if-is_empty.false) in
    on_ok_weaker c.write.result (field_behind c.args.out.now.items c.write_string.new.out.items c.write.new.out.items c.args.name.now (map_put es) (values.Map es) some (rw (← c.as_bytes.ensures.value) c.in_ok-write_string.ensures.bytes)) c.write.ensures.bytes
