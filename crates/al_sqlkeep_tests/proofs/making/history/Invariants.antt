use Rattle.al_tables.specs.Tables.{AreVersions}
use Rattle.al_sqlkeep_tests.proofs.making.history.Given as goal

abbrev pub invariant-loop-line : goal.invariant-loop-line
invariant-loop-line l = AreVersions l.history
