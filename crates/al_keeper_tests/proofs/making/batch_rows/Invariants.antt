use Rattle.std.proofs.Common.{All, IfSome}
use Rattle.al_rows.specs.Above.{IsStored}
use Rattle.al_keeper_tests.proofs.making.batch_rows.Given as goal

abbrev pub invariant-loop-app : goal.invariant-loop-app
invariant-loop-app l = All (λ r. IfSome r.stored (IsStored r.key)) l.rows
