use Rattle.std.proofs.Common.{All, IfSome}
use Rattle.al_rows.specs.Above.{IsStored}
use Rattle.al_opening_tests.proofs.tables.rows_of.Given as goal

abbrev pub invariant-loop-number : goal.invariant-loop-number
invariant-loop-number l = All (λ r. IfSome r.stored (IsStored r.key)) l.rows
