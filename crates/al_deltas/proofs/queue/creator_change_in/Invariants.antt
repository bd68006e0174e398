use Rattle.std.proofs.Common.{◌≡◌, length, map}
use Rattle.std.specs.List.Sorted.{IsStrictlySortedBy}
use Rattle.std.specs.Ordering.{nat_cmp}
use Rattle.al_deltas.specs.Queue.{creator_in}
use Rattle.al_deltas.proofs.queue.creator_change_in.Given as goal

abbrev pub invariant-loop-middle : goal.invariant-loop-middle
invariant-loop-middle l = record {
  rise : IsStrictlySortedBy nat_cmp (map (λ c. c.id) l.left);
  same : creator_in l.id l.left ≡ creator_in l.id l.changes;
}

abbrev pub decreases-loop-middle : goal.decreases-loop-middle
decreases-loop-middle l = length l.left
