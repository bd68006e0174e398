use Rattle.al_trie.proofs.Finding.{On}
use Rattle.al_trie.proofs.pruning.find_barren.Given as goal

abbrev pub invariant-loop-depth : goal.invariant-loop-depth
invariant-loop-depth l = On l.nodes l.element l.id.0 l.depth
