use Rattle.std.proofs.Common.{◌≤◌, ◌+◌}
use Rattle.al_trie.specs.Arena.{stale}
use Rattle.al_trie.proofs.Refreshing.{IsRefreshing}
use Rattle.al_trie.proofs.refresh.+refresh.Given as goal

abbrev pub decreases-refresh : goal.decreases-refresh
decreases-refresh g l = l.height

abbrev pub invariant-loop-k : goal.invariant-loop-k
invariant-loop-k g l = record {
  going : IsRefreshing l.slots l.fn.nodes l.nodes l.id.0 l.height l.count l.k;
  cost : l.steps + stale l.nodes ≤ l.fn.steps + stale l.fn.nodes;
}
