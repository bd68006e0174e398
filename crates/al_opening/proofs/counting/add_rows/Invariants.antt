use Rattle.std.proofs.Common.{◌≡◌, drop}
use Rattle.al_opening.specs.Counting.{and_rows}
use Rattle.al_opening.proofs.counting.add_rows.Given as goal

abbrev pub invariant-loop-row : goal.invariant-loop-row
invariant-loop-row l = and_rows l.totals (drop l.row-index l.rows) ≡ and_rows l.initial.totals l.rows
