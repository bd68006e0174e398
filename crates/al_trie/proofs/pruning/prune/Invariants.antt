use Rattle.std.proofs.Common.{◌<◌, ◌≤◌, length}
use Rattle.al_trie.specs.Arena.{IsArena, stale}
use Rattle.al_trie.proofs.pruning.prune.Given as goal

abbrev pub invariant-loop : goal.invariant-loop
invariant-loop l = record {
  arena : IsArena l.slots l.nodes;
  some : 0 < length l.nodes;
  cost : stale l.nodes ≤ stale l.fn.nodes;
}
