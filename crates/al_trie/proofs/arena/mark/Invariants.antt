use Rattle.std.proofs.Common.{◌-◌}
use Rattle.al_trie.specs.Arena.{stale}
use Rattle.al_trie.proofs.Finding.{IsMarking}
use Rattle.al_trie.proofs.arena.mark.Given as goal

abbrev pub invariant-down : goal.invariant-down
invariant-down l = IsMarking l.slots l.nodes l.element l.id.0 l.depth (stale l.fn.nodes)

abbrev pub decreases-down : goal.decreases-down
decreases-down l = 36 - l.depth
