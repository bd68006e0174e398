use Rattle.std.proofs.Common.{◌≡◌}
use Rattle.al_moves.specs.Totals.{counted_anew}
use Rattle.al_moves.proofs.totals.totals_of.Given as goal

abbrev pub invariant-loop-held : goal.invariant-loop-held
invariant-loop-held l = counted_anew l.totals l.held-iterator ≡ counted_anew l.fn.before l.rows.entries
