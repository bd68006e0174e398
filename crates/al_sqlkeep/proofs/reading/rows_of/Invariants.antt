use Rattle.al_sqlkeep.proofs.Runs.{IsRun}
use Rattle.al_sqlkeep.proofs.reading.rows_of.Given as goal

abbrev pub invariant-loop-row : goal.invariant-loop-row
invariant-loop-row l = IsRun l.fn.after l.max l.last l.rows
