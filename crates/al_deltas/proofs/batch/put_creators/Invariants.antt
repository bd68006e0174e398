use Rattle.std.proofs.Common.{◌≡◌, ℕ, drop}
use Rattle.std.specs.BTreeMap as tree
use Rattle.std.specs.Option.{option_or}
use Rattle.std.specs.Ordering.{nat_cmp}
use Rattle.al_deltas.specs.Queue.{creator_in}
use Rattle.al_deltas.proofs.batch.put_creators.Given as goal

abbrev pub invariant-loop-change : goal.invariant-loop-change
invariant-loop-change l = (id : ℕ) → option_or (tree.get nat_cmp l.net id) (creator_in id (drop l.change-index l.changes)) ≡ option_or (tree.get nat_cmp l.fn.net id) (creator_in id l.changes)
