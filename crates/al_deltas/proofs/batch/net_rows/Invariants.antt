use Rattle.std.proofs.Common.{◌≡◌, length, option_map}
use Rattle.std.specs.Option.{option_or}
use Rattle.al_deltas.specs.Queue.{last_change, left_by}
use Rattle.al_deltas.proofs.Applied.{at}
use Rattle.al_deltas.proofs.batch.net_rows.Given as goal

abbrev pub invariant-loop-last : goal.invariant-loop-last
invariant-loop-last l = (q : _) → option_or (at l.net.entries q) (option_map left_by (last_change q l.left)) ≡ option_map left_by (last_change q l.deltas)

abbrev pub decreases-loop-last : goal.decreases-loop-last
decreases-loop-last l = length l.left
