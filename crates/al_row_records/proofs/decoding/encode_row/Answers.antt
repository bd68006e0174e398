use Rattle.std.proofs.Common.{◌++◌, ap, ◌∙◌}
use Rattle.al_msgpack.specs.declared.val.Val.TheVariants as values
use Rattle.al_msgpack.proofs.Canonical.{spells_only}
use Rattle.al_row_records.specs.RowRecords.{row_written}
use Rattle.al_row_records.proofs.decoding.encode_row.Goals as goal

pub returns-in-Ok-clause-back : goal.returns-in-Ok-clause-back
returns-in-Ok-clause-back c = λ k input m. c.in-Ok.ensures.bytes ∙ ap (λ z. c.args.out.now.items ++ z) (spells_only 16 (values.Map (row_written c.args.row.now)) input m.0.spells)
