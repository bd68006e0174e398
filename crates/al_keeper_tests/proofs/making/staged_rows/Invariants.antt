use Rattle.std.proofs.Common.{All}
use Rattle.al_rows.specs.Above.{IsStored}
use Rattle.al_keeper_tests.proofs.making.staged_rows.Given as goal

abbrev pub invariant-loop-app : goal.invariant-loop-app
invariant-loop-app l = All (λ r. IsStored r.key r.stored) l.rows
