-- The rows that a work holds, and those that a transaction changed.
use Rattle.std.specs.Prelude.{◌≡◌, List, [], ◌∷◌, map, Bool, true, false, IfSome, IsSome}
use Rattle.std.specs.declared.option.Option.{Option}
use Rattle.std.specs.declared.option.Option.TheVariants.{None}
use Rattle.std.specs.FinMap.{get}
use Rattle.std.specs.BTreeMap.{is_at}
use Rattle.std.specs.Map.{lookup}
use Rattle.std.specs.List.Sorted.{IsStrictlySortedBy}
use Rattle.al_base.specs.declared.key.Key.{Key}
use Rattle.al_base.specs.Keys.{key_cmp}
use Rattle.al_rows.specs.declared.row.Row.{Row}
use Rattle.al_rows.specs.Finite.{or_below}
use Rattle.al_rows.specs.Rows.{RowMap, same_row, InRange, IsKept}
use Rattle.std.specs.FinMap.Entries.{by_order}
use Rattle.al_overlay.specs.declared.held.Held.{Held}

abbrev pub at : {X : Type 0} → List (Key × X) → Key → Option X
at es q = lookup (is_at (key_cmp q)) es

-- the row that stands under a key among changes, none where it did not change
abbrev pub now_at : List (Key × Option Row) → Key → Option Row
now_at es q = or_below (at es q) None

-- the rows now, and those before the block, of what is held
abbrev pub nows : List (Key × Held) → List (Key × Option Row)
nows es = map (λ e. (e.0, e.1.row)) es

abbrev pub befores : List (Key × Held) → List (Key × Option Row)
befores es = map (λ e. (e.0, e.1.block)) es

-- what is held, with another row now
abbrev pub with_row : Option Row → Held → Held
with_row row h = record h { row = row }

-- changes are in the order of their keys, each once
abbrev pub AreInOrder : List (Key × Option Row) → Type 0
AreInOrder es = IsStrictlySortedBy key_cmp (map (λ e. e.0) es)

-- a list in the order of keys with a row under a key, unless it has one there
abbrev pub put_first : Key → Option Row → List (Key × Option Row) → List (Key × Option Row)
put_first k row [] = (k, row) ∷ []
put_first k row (e ∷ es) = by_order (key_cmp k e.0) ((k, row) ∷ e ∷ es) (e ∷ es) (e ∷ put_first k row es)

-- what is held is the view's before the block, in range, and kept where it differs; what changed since the start is held, in the order of keys
pub record IsWork (tells : Bool) (block : RowMap) (rows : List (Key × Held)) (started : List (Key × Option Row)) : Type 0 where
  pub told : tells ≡ true → (q : Key) → IfSome (at rows q) (λ h. h.block ≡ get block q)
  pub ranged : (q : Key) → IfSome (at rows q) (λ h. IfSome h.row (InRange q))
  pub kept : (q : Key) → IfSome (at rows q) (λ h. same_row h.block h.row ≡ false → IfSome h.row (IsKept q))
  pub has_row : (q : Key) → IsSome (at started q) → IsSome (at rows q)
  pub ordered : AreInOrder started
