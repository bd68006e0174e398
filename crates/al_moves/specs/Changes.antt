-- The rows that differ from before.
use Rattle.std.specs.Prelude.{◌≡◌, List, [], ◌∷◌, map, if◌then◌else◌}
use Rattle.std.specs.declared.option.Option.{Option}
use Rattle.std.specs.declared.option.Option.TheVariants.{None, Some}
use Rattle.std.specs.FinMap.{get}
use Rattle.std.specs.BTreeMap.{is_at}
use Rattle.std.specs.Map.{lookup}
use Rattle.std.specs.List.Sorted.{IsStrictlySortedBy}
use Rattle.al_base.specs.declared.key.Key.{Key}
use Rattle.al_base.specs.Keys.{key_cmp}
use Rattle.al_rows.specs.declared.row.Row.{Row}
use Rattle.al_rows.specs.Rows.{RowMap, same_row}
use Rattle.al_rows.specs.declared.change.Change.{Change}
use Rattle.al_overlay.specs.declared.held.Held.{Held}

abbrev pub change_of : Change → Key × Option Row
change_of c = (c.key, c.row)

-- the rows that differ, in the order of keys
pub record AreChanges (block now : RowMap) (changes : List (Key × Option Row)) : Type 0 where
  pub ordered : IsStrictlySortedBy key_cmp (map (λ e. e.0) changes)
  pub each : (q : Key) → lookup (is_at (key_cmp q)) changes ≡ (if same_row (get block q) (get now q) then None else Some (get now q))

-- the rows that differ from before the block
abbrev pub changed : List (Key × Held) → List (Key × Option Row)
changed [] = []
changed (e ∷ es) = if same_row e.1.block e.1.row then changed es else (e.0, e.1.row) ∷ changed es
