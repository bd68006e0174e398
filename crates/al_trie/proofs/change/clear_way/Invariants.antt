use Rattle.std.proofs.Common.{◌+◌, ◌-◌, ◌≤◌}
use Rattle.al_trie.specs.Arena.{IsArena, IsLast, stale}
use Rattle.al_trie.proofs.change.clear_way.Given as goal

abbrev pub invariant-down : goal.invariant-down
invariant-down l = record {
  arena : IsArena l.slots l.nodes.items;
  last : IsLast l.nodes.items l.element l.place.id.0 l.place.depth;
  cost : stale l.nodes.items + (l.fn.from.depth + 1) ≤ stale l.fn.nodes.items + (l.place.depth + 1);
}

abbrev pub decreases-down : goal.decreases-down
decreases-down l = 36 - l.place.depth
