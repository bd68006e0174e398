-- The children of a node.
use Rattle.std.specs.Prelude.{ℕ, zero, suc, ◌<◌, ◌≤◌, cond, ltb, ◌==◌, List, [], ◌∷◌, Option, Some, None}
use Rattle.al_trie.specs.declared.kids.Kid.{Kid}
use Rattle.al_trie.specs.declared.kids.Link.{Link}

-- where the child at a byte leads
abbrev pub find_kid : ℕ → List Kid → Option Link
find_kid b [] = None
find_kid b (k ∷ ks) = cond (k.byte == b) (Some k.to) (find_kid b ks)

-- the bytes rise, from one on
abbrev pub Rising : ℕ → List Kid → Type 0
Rising low [] = Unit {0}
Rising low (k ∷ ks) = (low ≤ k.byte) × (k.byte < 256) × Rising (suc k.byte) ks

-- how many children stand before a byte
abbrev pub before : ℕ → List Kid → ℕ
before b [] = zero
before b (k ∷ ks) = cond (ltb k.byte b) (suc (before b ks)) zero
