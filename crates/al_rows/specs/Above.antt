-- The first rows above a key, in the order of keys.
use Rattle.std.specs.Prelude.{◌≡◌, ℕ, ◌≤◌, ◌^◌, List, map, take, filter, length, Bool, true, All}
use Rattle.std.specs.declared.option.Option.{Option}
use Rattle.std.specs.declared.option.Option.TheVariants.{None, Some}
use Rattle.std.specs.List.Sorted.{IsStrictlySortedBy}
use Rattle.std.specs.FinMap.{FinMap, entries}
use Rattle.std.specs.Ordering.{is_lt}
use Rattle.std.specs.declared.ops.Bound.{Bound}
use Rattle.std.specs.declared.ops.Bound.TheVariants.{Excluded, Unbounded}
use Rattle.al_base.specs.declared.key.Key.{Key}
use Rattle.al_base.specs.Keys.{key_cmp}
use Rattle.al_rows.specs.declared.stored.Keyed.{Keyed}
use Rattle.al_rows.specs.declared.stored.Stored.{Stored}
use Rattle.al_rows.specs.Rows.{IsKept}

-- what may be stored under a key: a row that may be kept there, and a round
abbrev pub IsStored : Key → Stored → Type 0
IsStored key s = IsKept key s.row × (s.changed ≤ 2 ^ 62)

abbrev pub keyed_of : Key × Stored → Keyed
keyed_of e = record { key = e.0; stored = e.1 }

-- whether a key stands behind another; every key does where there is none
abbrev pub is_above : Option Key → Key → Bool
is_above None key = true
is_above (Some after) key = is_lt (key_cmp after key)

-- from above a key on, or from the first
abbrev pub bound_of : Option Key → Bound Key
bound_of None = Unbounded
bound_of (Some key) = Excluded key

-- the entries above a key
abbrev pub entries_above : Option Key → FinMap key_cmp Stored → List (Key × Stored)
entries_above after rows = filter (λ e. is_above after e.0) (entries rows)

-- the first rows above a key
abbrev pub rows_above : Option Key → ℕ → FinMap key_cmp Stored → List Keyed
rows_above after most rows = map keyed_of (take most (entries_above after rows))

-- rows that may come above a key: not too many, each above the key, in the order of keys, each of which may be stored
pub record AreRows (after : Option Key) (most : ℕ) (rows : List Keyed) : Type 0 where
  pub few : length rows ≤ most
  pub rising : IsStrictlySortedBy key_cmp (map (λ r. r.key) rows)
  pub above : All (λ r. is_above after r.key ≡ true) rows
  pub kept : All (λ r. IsStored r.key r.stored) rows
