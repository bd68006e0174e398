use Rattle.std.proofs.Common.{◌≤◌, length, max}
use Rattle.al_states.specs.Keeping.{IsStates, held}
use Rattle.al_catchpoint.specs.Applying.{Takes}
use Rattle.al_catchpoint.proofs.applying.apply_until.Given as goal

abbrev pub invariant-loop-states : goal.invariant-loop-states
invariant-loop-states l = record {
  states : IsStates l.states;
  takes : Takes (held l.fn.states) l.bytes (held l.states) l.rest;
  bound : length (held l.states).blocks ≤ max l.until (length (held l.fn.states).blocks);
  short : length l.rest ≤ length l.bytes;
}

abbrev pub decreases-loop-states : goal.decreases-loop-states
decreases-loop-states l = length l.rest
