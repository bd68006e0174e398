use Rattle.std.proofs.Common.{◌≡◌, ◌+◌, drop}
use Rattle.al_block.specs.Hashes.{run}
use Rattle.al_block.proofs.hashing.run.Given as goal

abbrev pub invariant-loop-item : goal.invariant-loop-item
invariant-loop-item l = record {
  count : l.n ≡ l.item-index;
  more : l.n + run l.group (drop l.item-index l.items) ≡ run l.group l.items;
}
