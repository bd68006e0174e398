use Rattle.std.proofs.Common.{sym}
use Rattle.al_msgpack.specs.declared.val.Val.TheVariants as values
use Rattle.al_msgpack.proofs.Canonical.{spells_only}
use Rattle.al_row_records.specs.RowRecords.{row_written}
use Rattle.al_row_records.proofs.Meaning.{once}
use Rattle.al_row_records.proofs.Ranged.{spells_row}
use Rattle.al_row_records.proofs.laws.row_record_laws.Goals as goal

pub returns-clause-spelled : goal.returns-clause-spelled
returns-clause-spelled c = λ k r h ranges some. spells_row k r h ranges some

pub returns-clause-one : goal.returns-clause-one
returns-clause-one c = λ k r input m. sym (spells_only 16 (values.Map (row_written r)) input m.0.spells)

pub returns-clause-once : goal.returns-clause-once
returns-clause-once c = λ k input a b m n. once k input a b m.0 n.0
