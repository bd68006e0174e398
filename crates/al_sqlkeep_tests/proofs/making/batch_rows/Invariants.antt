use Rattle.std.proofs.Common.{All, IfSome}
use Rattle.al_rows.specs.Above.{IsStored}
use Rattle.al_sqlkeep_tests.proofs.making.batch_rows.Given as goal

abbrev pub invariant-loop-line : goal.invariant-loop-line
invariant-loop-line l = All (λ r. IfSome r.stored (IsStored r.key)) l.rows
