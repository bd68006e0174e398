use Rattle.std.proofs.Common.{◌≡◌, drop}
use Rattle.al_record.specs.Columns.{field_fault, heads}
use Rattle.al_record.specs.Code.{table_of}
use Rattle.al_record.proofs.pass.check_fields.Given as goal

abbrev pub invariant-loop-e : goal.invariant-loop-e
invariant-loop-e l = field_fault (heads (table_of l.columns)) (drop l.e-index l.entries) ≡ field_fault (heads (table_of l.columns)) l.entries
