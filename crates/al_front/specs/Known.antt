-- What callers see of a front's parts.
use Rattle.std.specs.Prelude.{ℕ, List, []}
use Rattle.atomic_table.specs.Seated.{TableId}

-- the identity of no table
abbrev pub no_table : TableId
no_table = record { words = 0; slots = 0; views_name = 0; atom = 0; block = 0; offset = 0; slot_names = [] }

-- a front that has no name yet: the identity of its words and its opening floor
pub record Unnamed : Type 0 where
  pub table : TableId
  pub base : ℕ

-- what a seat, a note or a pass knows: a list of entries, each a list of bytes, and a floor
pub record Known : Type 0 where
  pub list : List (List ℕ)
  pub floor : ℕ
