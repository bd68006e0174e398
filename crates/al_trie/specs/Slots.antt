-- The places of the elements.
use Rattle.std.specs.Prelude.{◌≡◌, ℕ, ◌⊎◌, length, List, [], ◌∷◌, ◌++◌, slice_get, Some}
use Rattle.al_trie.specs.declared.slots.Slot.{Slot}
use Rattle.al_trie.specs.declared.slots.Slot.TheVariants.{Full, Free}

-- the elements that are there
abbrev pub full : List Slot → List (List ℕ)
full [] = []
full (Full x ∷ slots) = x ∷ full slots
full (Free next ∷ slots) = full slots

-- ys is xs with e put in somewhere
abbrev pub Inserted : List ℕ → List (List ℕ) → List (List ℕ) → Type 0
Inserted e xs ys = (a : List (List ℕ)) × (b : List (List ℕ)) × (xs ≡ a ++ b) × (ys ≡ a ++ e ∷ b)

-- a place holds an element
abbrev pub HoldsAt : List Slot → ℕ → List ℕ → Type 0
HoldsAt slots s x = slice_get slots s ≡ Some (Full x)

-- each place that held an element holds it still
abbrev pub KeepsFull : List Slot → List Slot → Type 0
KeepsFull old new = (s : ℕ) (x : List ℕ) → HoldsAt old s x → HoldsAt new s x

-- an element stands in a list
abbrev pub Among : List ℕ → List (List ℕ) → Type 0
Among x [] = ⊥
Among x (y ∷ ys) = (x ≡ y) ⊎ Among x ys

-- each element has 36 bytes
abbrev pub AreElements : List (List ℕ) → Type 0
AreElements xs = (x : List ℕ) → Among x xs → length x ≡ 36
