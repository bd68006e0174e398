use Rattle.std.proofs.Common.{◌≡◌, ℕ, length}
use Rattle.std.specs.BTreeMap as tree
use Rattle.std.specs.Option.{option_or}
use Rattle.std.specs.Ordering.{nat_cmp}
use Rattle.al_deltas.specs.Queue.{last_creator}
use Rattle.al_deltas.proofs.batch.net_creators.Given as goal

abbrev pub invariant-loop-last : goal.invariant-loop-last
invariant-loop-last l = (id : ℕ) → option_or (tree.get nat_cmp l.net id) (last_creator id l.left) ≡ last_creator id l.deltas

abbrev pub decreases-loop-last : goal.decreases-loop-last
decreases-loop-last l = length l.left
