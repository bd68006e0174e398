-- The creators of assets and applications that differ from before.
use Rattle.std.specs.Prelude.{◌≡◌, ℕ, List, map, filter_map, Bool, true, false, if◌then◌else◌}
use Rattle.std.specs.declared.option.Option.{Option}
use Rattle.std.specs.declared.option.Option.TheVariants.{None, Some}
use Rattle.std.specs.BTreeMap.{is_at}
use Rattle.std.specs.List.Sorted.{IsStrictlySortedBy}
use Rattle.std.specs.Map.{lookup}
use Rattle.std.specs.Ordering.{nat_cmp}
use Rattle.al_base.specs.declared.address.Address.{Address}
use Rattle.al_base.specs.declared.key.CreatorChange.{CreatorChange}
use Rattle.al_base.specs.declared.key.Key.{Key}
use Rattle.al_rows.specs.Rows.{RowMap, creator_of}
use Rattle.al_overlay.specs.declared.creator.First.{First}
use Rattle.al_overlay.specs.declared.held.Held.{Held}
use Rattle.al_overlay.specs.Accounts.{same_address}
use Rattle.al_overlay.specs.Creators.{creator_noted}
use Rattle.al_overlay.specs.Held.{nows}

abbrev pub creator_change_of : CreatorChange → ℕ × Option Address
creator_change_of c = (c.id, c.now)

abbrev pub same_creator : Option Address → Option Address → Bool
same_creator None None = true
same_creator (Some a) (Some b) = same_address a b
same_creator a b = false

-- the creators that differ, in the order of ids
pub record AreCreatorChanges (block now : RowMap) (changes : List (ℕ × Option Address)) : Type 0 where
  pub ordered : IsStrictlySortedBy nat_cmp (map (λ e. e.0) changes)
  pub each : (id : ℕ) → lookup (is_at (nat_cmp id)) changes ≡ (if same_creator (creator_of block id) (creator_of now id) then None else Some (creator_of now id))

-- the creator of an id, where it differs from before
abbrev pub changed_creator : ℕ → Option Address → Option Address → Option (ℕ × Option Address)
changed_creator id before now = if same_creator before now then None else Some (id, now)

-- the same by what is noted of the id
abbrev pub changed_by : RowMap → List (Key × Held) → ℕ × Option First → Option (ℕ × Option Address)
changed_by m es e = changed_creator e.0 (creator_of m e.0) (creator_noted e.0 (creator_of m e.0) (Some e.1) (nows es))

-- the creators that differ, of the ids of which something is noted
abbrev pub changed_creators : RowMap → List (Key × Held) → List (ℕ × Option First) → List (ℕ × Option Address)
changed_creators m es noted = filter_map (changed_by m es) noted
