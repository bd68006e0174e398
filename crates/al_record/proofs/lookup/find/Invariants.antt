use Rattle.std.proofs.Common.{◌≡◌, drop}
use Rattle.al_record.specs.Columns.{value_at}
use Rattle.al_record.proofs.lookup.find.Given as goal

abbrev pub invariant-loop-e : goal.invariant-loop-e
invariant-loop-e l = value_at l.name (drop l.e-index l.entries) ≡ value_at l.name l.entries
