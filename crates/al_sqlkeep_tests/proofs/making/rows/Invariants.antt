use Rattle.std.proofs.Common.{All}
use Rattle.al_rows.specs.Above.{IsStored}
use Rattle.al_sqlkeep_tests.proofs.making.rows.Given as goal

abbrev pub invariant-loop-line : goal.invariant-loop-line
invariant-loop-line l = All (λ r. IsStored r.key r.stored) l.rows
