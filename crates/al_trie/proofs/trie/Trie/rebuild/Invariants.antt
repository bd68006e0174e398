use Rattle.std.proofs.Common.{◌≡◌, ◌*◌, ◌≤◌, take}
use Rattle.al_trie.specs.Tries.{set_of, HoldsTwice}
use Rattle.al_trie.proofs.trie.Trie.rebuild.Given as goal

abbrev pub invariant-loop-element : goal.invariant-loop-element
invariant-loop-element l = record {
  set : l.trie.elements ≡ set_of (take l.element-index l.list);
  once : HoldsTwice (take l.element-index l.list) → ⊥;
  cost : l.trie.stale ≤ 37 * l.element-index;
}
