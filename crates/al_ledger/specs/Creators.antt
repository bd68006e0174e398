-- The creators of assets and applications beside the rows.
use Rattle.std.specs.Prelude.{◌≡◌, ℕ, List, [], ◌∷◌, Bool, true, false, if◌then◌else◌, ◌&&◌, nat_eq}
use Rattle.std.specs.Coded.{Coded-set, coded_option, Π_prop}
use Rattle.std.specs.FinMap.{entries, from_entries, get}
use Rattle.al_base.specs.contracts.address.Address as address
use Rattle.al_base.specs.declared.address.Address.{Address}
use Rattle.al_base.specs.declared.key.Key.{Key}
use Rattle.al_base.specs.declared.key.Key.TheVariants as keys
use Rattle.al_overlay.specs.Accounts.{same_address}
use Rattle.al_rows.specs.Rows.{bare, creator_of, has_params}
use Rattle.al_rows.specs.declared.row.Row.{Row}
use Rattle.al_tables.specs.Tables.{CreatorMap, StoredMap}

-- the creators are those of the rows
abbrev pub AreCreatorsOf : StoredMap → CreatorMap → Type 0
AreCreatorsOf rows creators = (id : ℕ) → get creators id ≡ creator_of (bare rows) id

-- that is a fact
pub creators_prop : (rows : StoredMap) (creators : CreatorMap) → IsProp (AreCreatorsOf rows creators)
creators_prop rows creators = Π_prop (λ id. Coded-set (coded_option address.the_row.coded) (get creators id) (creator_of (bare rows) id))

-- whose params a row has, with what others have
abbrev pub and_params : Key → Row → List (ℕ × Address) → List (ℕ × Address)
and_params (keys.Account who) row others = others
and_params (keys.Resource who id) row others = if has_params row then (id, who) ∷ others else others
and_params (keys.Box app name) row others = others

-- whose params rows have, row by row
abbrev pub params_of : List (Key × Row) → List (ℕ × Address)
params_of [] = []
params_of (e ∷ es) = and_params e.0 e.1 (params_of es)

-- the creators of rows, as a map
unfoldable pub creators_in : StoredMap → CreatorMap
creators_in rows = from_entries (params_of (entries (bare rows)))

-- these are the same creators
abbrev pub same_creators : List (ℕ × Address) → List (ℕ × Address) → Bool
same_creators [] [] = true
same_creators [] (y ∷ ys) = false
same_creators (x ∷ xs) [] = false
same_creators (x ∷ xs) (y ∷ ys) = nat_eq x.0 y.0 && (same_address x.1 y.1 && same_creators xs ys)

-- whether the creators are those of the rows
unfoldable pub agrees : StoredMap → CreatorMap → Bool
agrees rows creators = same_creators (entries creators) (entries (creators_in rows))
