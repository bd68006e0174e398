use Rattle.std.proofs.lemmas.Result.{on_ok_weaker}
use Rattle.std.proofs.Common.{map, sym, ap, ◌∙◌}
use Rattle.al_msgpack.specs.declared.val.Val.TheVariants as values
use Rattle.al_record.specs.Columns.{list_put}
use Rattle.al_record.proofs.Appended.{field_behind, list_there}
use Rattle.al_record.proofs.record.write_records.Goals as goal

pub returns-clause-bytes : goal.returns-clause-bytes
returns-clause-bytes g c =
    let vs = map (λ es. values.Map es) (map g.R.Record.format.write c.args.values.now) in
    let some = list_there g.R.Record.format.write c.args.values.now (sym c.is_empty.ensures ∙ c.if-is_empty.false) in
    on_ok_weaker c.write_list_of.result (field_behind c.args.out.now.items c.write_string.new.out.items c.write_list_of.new.out.items c.args.name.now (list_put vs) (values.List vs) some (rw (← c.as_bytes.ensures.value) c.in_ok-write_string.ensures.bytes)) c.write_list_of.ensures.bytes
