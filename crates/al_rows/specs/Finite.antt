-- Words on finite maps: a row set or taken away, a map over a map, and a sum over all entries.
use Rattle.std.specs.Prelude.{ℕ, List, [], ◌∷◌, map}
use Rattle.std.specs.declared.cmp.Ordering.{Ordering}
use Rattle.std.specs.declared.option.Option.{Option}
use Rattle.std.specs.declared.option.Option.TheVariants.{None, Some}
use Rattle.std.specs.List.{sum_by}
use Rattle.std.specs.Option.{option_or}
use Rattle.std.specs.FinMap.{FinMap, insert, remove, entries, from_sorted}

module _ {K X : Type 0} {R : K → K → Ordering} where
  -- the map with this under the key, None being nothing
  abbrev pub set_at : FinMap R X → K → Option X → FinMap R X
  set_at m k None = remove m k
  set_at m k (Some x) = insert m k x

  -- the map with changes over it: the first change of a key stands
  abbrev pub overlaid : List (K × Option X) → FinMap R X → FinMap R X
  overlaid [] m = m
  overlaid (e ∷ es) m = set_at (overlaid es m) e.0 e.1

-- a change, or else what stands below
abbrev pub or_below : {X : Type 0} → Option X → X → X
or_below None below = below
or_below (Some x) below = x

-- what an entry weighs, nothing where there is none
abbrev pub weight : {K X : Type 0} → (K → X → ℕ) → K → Option X → ℕ
weight w k None = 0
weight w k (Some x) = w k x

-- the weights of all entries, added up
abbrev pub total : {K X : Type 0} {R : K → K → Ordering} → (K → X → ℕ) → FinMap R X → ℕ
total w m = sum_by (λ e. w e.0 e.1) (entries m)

-- the map with each value changed by f
unfoldable pub map_entries : {K X Y : Type 0} {R : K → K → Ordering} → (K → X → Y) → FinMap R X → FinMap R Y
map_entries f m = from_sorted (map (λ e. (e.0, f e.0 e.1)) (entries m))

-- the first that is there
abbrev pub first_some : {A B : Type 0} → (A → Option B) → List A → Option B
first_some f [] = None
first_some f (x ∷ xs) = option_or (f x) (first_some f xs)
