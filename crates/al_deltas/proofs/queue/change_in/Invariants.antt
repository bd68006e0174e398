use Rattle.std.proofs.Common.{◌≡◌, length}
use Rattle.al_deltas.specs.Queue.{changed_in}
use Rattle.al_deltas.proofs.Searches.{Rise}
use Rattle.al_deltas.proofs.queue.change_in.Given as goal

abbrev pub invariant-loop-middle : goal.invariant-loop-middle
invariant-loop-middle l = record {
  rise : Rise l.left;
  same : changed_in l.key l.left ≡ changed_in l.key l.changes;
}

abbrev pub decreases-loop-middle : goal.decreases-loop-middle
decreases-loop-middle l = length l.left
