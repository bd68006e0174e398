use Rattle.std.proofs.Common.{refl}
use Rattle.al_trie.proofs.Ending.{new_trie}
use Rattle.al_trie.proofs.trie.Trie.new.Goals as goal

pub invariant_of-result : goal.invariant_of-result
invariant_of-result c = new_trie _ c.new.ensures.items c.new-2.ensures.items refl
