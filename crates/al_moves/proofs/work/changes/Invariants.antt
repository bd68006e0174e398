use Rattle.std.proofs.Common.{◌≡◌, ◌++◌, map}
use Rattle.al_moves.specs.Changes.{change_of, changed}
use Rattle.al_moves.proofs.work.changes.Given as goal

abbrev pub invariant-loop-key : goal.invariant-loop-key
invariant-loop-key l = map change_of l.out.items ++ changed l.key-iterator ≡ changed l.fn.rows.entries
