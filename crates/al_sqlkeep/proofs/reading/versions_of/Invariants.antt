use Rattle.al_tables.specs.Tables.{AreVersions}
use Rattle.al_sqlkeep.proofs.reading.versions_of.Given as goal

abbrev pub invariant-loop-row : goal.invariant-loop-row
invariant-loop-row l = AreVersions l.history
