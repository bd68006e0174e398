use Rattle.std.proofs.Common.{◌≡◌, ◌-◌, [], ◌∷◌, ◌++◌, length, take, drop, flat_map}
use Rattle.al_trie.specs.declared.kids.Kid.{Kid}
use Rattle.al_trie.specs.Root.{Through, through, child, node}
use Rattle.al_trie.specs.Slots.{full}
use Rattle.al_trie.specs.Spelling.{SeenFits}
use Rattle.al_trie.proofs.Passing.{joined}
use Rattle.al_trie.proofs.Children.{joined_kids}
use Rattle.al_trie.proofs.refresh.spell.Given as goal

abbrev pub invariant-loop-kid : goal.invariant-loop-kid
invariant-loop-kid l = record {
  bytes : l.out.items ≡ l.fn.out.items ++ flat_map (λ (k : Kid). child l.path k.byte (through (full l.slots) (l.path ++ k.byte ∷ [])) (node (through (full l.slots)) (35 - length l.path) (l.path ++ k.byte ∷ []))) (take l.kid-index l.kids);
  seen : (t : Through) × SeenFits l.slots l.seen t × (joined t (joined_kids (λ b. through (full l.slots) (l.path ++ b ∷ [])) (drop l.kid-index l.kids)) ≡ joined_kids (λ b. through (full l.slots) (l.path ++ b ∷ [])) l.kids);
}
