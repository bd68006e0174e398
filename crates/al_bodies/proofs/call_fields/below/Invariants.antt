use Rattle.std.proofs.Common.{◌≡◌, ◌+◌, drop}
use Rattle.al_bodies.specs.Kept.{below}
use Rattle.al_bodies.proofs.call_fields.below.Given as goal

abbrev pub invariant-loop-e : goal.invariant-loop-e
invariant-loop-e l = record {
  count : l.n ≡ l.e-index;
  more : l.n + below l.key (drop l.e-index l.entries) ≡ below l.key l.entries;
}
