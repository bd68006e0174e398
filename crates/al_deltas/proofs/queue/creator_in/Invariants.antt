use Rattle.std.proofs.Common.{◌≡◌, length, All}
use Rattle.al_deltas.specs.Queue.{IsKeptDelta, last_creator}
use Rattle.al_deltas.proofs.queue.creator_in.Given as goal

abbrev pub invariant-loop-last : goal.invariant-loop-last
invariant-loop-last l = record {
  same : last_creator l.id l.left ≡ last_creator l.id l.deltas;
  kept : All IsKeptDelta l.left;
}

abbrev pub decreases-loop-last : goal.decreases-loop-last
decreases-loop-last l = length l.left
