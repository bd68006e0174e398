use Rattle.al_tables.specs.Tables.{AreLevels}
use Rattle.al_sqlkeep_tests.proofs.making.levels.Given as goal

abbrev pub invariant-loop-line : goal.invariant-loop-line
invariant-loop-line l = AreLevels l.levels
