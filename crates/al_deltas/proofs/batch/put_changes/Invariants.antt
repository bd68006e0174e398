use Rattle.std.proofs.Common.{◌≡◌, drop, map}
use Rattle.std.specs.Option.{option_or}
use Rattle.al_deltas.specs.Queue.{left_of}
use Rattle.al_deltas.proofs.Applied.{at}
use Rattle.al_deltas.proofs.batch.put_changes.Given as goal

abbrev pub invariant-loop-change : goal.invariant-loop-change
invariant-loop-change l = (q : _) → option_or (at l.net.entries q) (at (map (left_of l.round) (drop l.change-index l.changes)) q) ≡ option_or (at l.fn.net.entries q) (at (map (left_of l.round) l.changes) q)
