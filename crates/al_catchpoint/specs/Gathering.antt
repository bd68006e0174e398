-- The set of the elements of all rows, as it is put together piece by piece.
use Rattle.std.specs.Prelude.{◌≡◌, List, [], ◌∷◌, ◌++◌, Option, Some, None}
use Rattle.std.specs.FinMap.{FinMap}
use Rattle.al_base.specs.Keys.{key_cmp}
use Rattle.al_base.specs.declared.key.Key.{Key}
use Rattle.al_rows.specs.declared.stored.Keyed.{Keyed}
use Rattle.al_rows.specs.declared.stored.Stored.{Stored}
use Rattle.al_rows.specs.Above.{rows_above}
use Rattle.al_row_records.specs.Element.{element_of}
use Rattle.al_trie.specs.Tries.{Elements, with_element}

-- a set with the elements of rows more
abbrev pub with_rows : Elements → List Keyed → Elements
with_rows s [] = s
with_rows s (r ∷ rs) = with_rows (with_element s (element_of r.key r.stored)) rs

-- the key of the last of some rows, if there is one
abbrev pub EndsAt : List Keyed → Option Key → Type 0
EndsAt rows None = rows ≡ []
EndsAt rows (Some k) = (front : List Keyed) × (last : Keyed) × (rows ≡ front ++ last ∷ []) × (last.key ≡ k)

-- the elements of the first rows above a key came into a set, and this is the last key of them, if there is one
pub record Gathers (m : FinMap key_cmp Stored) (after : Option Key) (old : Elements) (last : Option Key) (new : Elements) : Type 0 where
  pub added : new ≡ with_rows old (rows_above after 512 m)
  pub ends : EndsAt (rows_above after 512 m) last
