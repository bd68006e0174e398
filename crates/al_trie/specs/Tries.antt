-- What a trie is: a set of elements, and how many nodes are stale. Each stale node costs one node digest at the next root.
use Rattle.std.specs.Prelude.{◌≡◌, ℕ, ◌⊎◌, ◌*◌, ◌≤◌, Bool, true, false, List, [], ◌∷◌, length, refl, Result, Ok, Err}
use Rattle.std.specs.Coded.{Coded, code_by, coded×, coded_ℕ, coded_list}
use Rattle.std.specs.Cmp.Lexicographic.{slice_cmp}
use Rattle.std.specs.Ordering.{nat_cmp}
use Rattle.std.specs.FinMap as fin
use base.Stored.{coded_unit}
use Rattle.al_trie.specs.declared.fault.TrieFault.{TrieFault}
use Rattle.al_trie.specs.declared.fault.TrieFault.TheVariants.{AlreadyThere, NotThere, Memory}
use Rattle.al_trie.specs.Root.{root_of, through, Several}
use Rattle.al_trie.specs.Slots.{Among}

-- a finite set of byte strings, in rising order
abbrev pub Elements : Type 0
Elements = fin.FinMap (slice_cmp nat_cmp) (Unit {0})

-- a set has an element
abbrev pub has : Elements → List ℕ → Bool
has s x = fin.contains_key s x

-- a set with an element more
abbrev pub with_element : Elements → List ℕ → Elements
with_element s x = fin.insert s x tt

-- a set with an element less
abbrev pub without : Elements → List ℕ → Elements
without s x = fin.remove s x

-- the set of a list's elements
abbrev pub set_of : List (List ℕ) → Elements
set_of [] = fin.empty
set_of (x ∷ xs) = with_element (set_of xs) x

-- the root of a set: that of its elements in rising order
abbrev pub root : Elements → List ℕ
root s = root_of (fin.keys s)

-- a trie's value
pub record Tried : Type 0 where
  pub elements : Elements
  pub stale : ℕ

-- how values are told apart
abbrev pub tried_code : Coded Tried
tried_code =
    code_by (Elements × ℕ) (coded× (fin.code (coded_list coded_ℕ) coded_unit) coded_ℕ) (λ t. (t.elements, t.stale)) (λ p. record { elements = p.0; stale = p.1 }) (λ _. refl)

-- no element stands twice
abbrev pub AreDifferent : List (List ℕ) → Type 0
AreDifferent xs = (x : List ℕ) → length x ≡ 36 → through xs x ≡ Several → ⊥

-- a fault's number
abbrev pub number_of : TrieFault → ℕ
number_of AlreadyThere = 1
number_of NotThere = 2
number_of Memory = 3

-- how adding an element to a set ends, and the set then
abbrev pub Adds : {A : Type 0} → Elements → List ℕ → Result A TrieFault → Elements → Type 0
Adds old e (Ok x) new = (has old e ≡ false) × (new ≡ with_element old e)
Adds old e (Err AlreadyThere) new = (has old e ≡ true) × (new ≡ old)
Adds old e (Err Memory) new = (has old e ≡ false) × (new ≡ old)
Adds old e (Err NotThere) new = ⊥

-- how removing an element from a set ends, and the set then
abbrev pub Removes : {A : Type 0} → Elements → List ℕ → Result A TrieFault → Elements → Type 0
Removes old e (Ok x) new = (has old e ≡ true) × (new ≡ without old e)
Removes old e (Err NotThere) new = (has old e ≡ false) × (new ≡ old)
Removes old e (Err AlreadyThere) new = ⊥
Removes old e (Err Memory) new = ⊥

-- an element stands twice in a list
abbrev pub HoldsTwice : List (List ℕ) → Type 0
HoldsTwice [] = ⊥
HoldsTwice (x ∷ xs) = Among x xs ⊎ HoldsTwice xs

-- how making the trie of a list ends
abbrev pub Rebuilds : List (List ℕ) → Result Tried TrieFault → Type 0
Rebuilds list (Ok t) = (HoldsTwice list → ⊥) × (t.elements ≡ set_of list) × (t.stale ≤ 37 * length list)
Rebuilds list (Err AlreadyThere) = HoldsTwice list
Rebuilds list (Err Memory) = Unit {0}
Rebuilds list (Err NotThere) = ⊥
