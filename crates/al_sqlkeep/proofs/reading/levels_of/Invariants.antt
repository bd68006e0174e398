use Rattle.al_tables.specs.Tables.{AreLevels}
use Rattle.al_sqlkeep.proofs.reading.levels_of.Given as goal

abbrev pub invariant-loop-row : goal.invariant-loop-row
invariant-loop-row l = AreLevels l.levels
