-- What blocks change, as a queue over the rows of its base.
use Rattle.std.specs.Prelude.{◌≡◌, ◌≤◌, ◌^◌, ℕ, suc, ◌+◌, ◌-◌, List, [], ◌∷◌, ◌++◌, max, length, map, take, drop, option_map, ⊤, All, IfSome}
use Rattle.std.specs.declared.option.Option.{Option}
use Rattle.std.specs.declared.option.Option.TheVariants.{None, Some}
use Rattle.std.specs.List.Sorted.{IsStrictlySortedBy}
use Rattle.std.specs.Option.{option_or}
use Rattle.std.specs.Map.{lookup}
use Rattle.std.specs.BTreeMap.{is_at}
use Rattle.std.specs.Ordering.{nat_cmp}
use Rattle.al_base.specs.declared.address.Address.{Address}
use Rattle.al_base.specs.declared.key.CreatorChange.{CreatorChange}
use Rattle.al_base.specs.declared.key.Key.{Key}
use Rattle.al_base.specs.Keys.{key_cmp}
use Rattle.al_deltas.specs.declared.delta.RoundDelta.{RoundDelta}
use Rattle.al_rewards.specs.declared.totals.Totals.{Totals}
use Rattle.al_rows.specs.declared.change.Change.{Change}
use Rattle.al_rows.specs.declared.row.Row.{Row}
use Rattle.al_rows.specs.declared.stored.Stored.{Stored}
use Rattle.al_rows.specs.Finite.{overlaid}
use Rattle.al_rows.specs.Rows.{IsKept}
use Rattle.al_tables.specs.Tables.{StoredMap, creator_pair}

-- what stands under a key that a block of this round changed
abbrev pub stored_at : ℕ → Option Row → Option Stored
stored_at round row = option_map (λ r. record { row = r; changed = round }) row

-- what a change leaves under its key
abbrev pub left_of : ℕ → Change → Key × Option Stored
left_of round c = (c.key, stored_at round c.row)

-- a change as a pair
abbrev pub pair_of : Change → Key × Option Row
pair_of c = (c.key, c.row)

-- what these change under a key, if they do
abbrev pub changed_in : Key → List Change → Option (Option Row)
changed_in q cs = lookup (is_at (key_cmp q)) (map pair_of cs)

-- the last change of a key, with its round
abbrev pub last_change : Key → List RoundDelta → Option (ℕ × Option Row)
last_change q [] = None
last_change q (d ∷ ds) = option_or (last_change q ds) (option_map (λ row. (d.round, row)) (changed_in q d.changes))

-- what these change of the creator of an id, if they do
abbrev pub creator_in : ℕ → List CreatorChange → Option (Option Address)
creator_in id cs = lookup (is_at (nat_cmp id)) (map creator_pair cs)

-- the last change of the creator of an id
abbrev pub last_creator : ℕ → List RoundDelta → Option (Option Address)
last_creator id [] = None
last_creator id (d ∷ ds) = option_or (last_creator id ds) (creator_in id d.creators)

-- what a change with its round leaves
abbrev pub left_by : ℕ × Option Row → Option Stored
left_by c = stored_at c.0 c.1

-- the last of a list
abbrev pub last_of : {A : Type 0} → List A → Option A
last_of [] = None
last_of (x ∷ []) = Some x
last_of (x ∷ y ∷ xs) = last_of (y ∷ xs)

-- the rows after one block
abbrev pub after_delta : RoundDelta → StoredMap → StoredMap
after_delta d m = overlaid (map (left_of d.round) d.changes) m

-- the rows after blocks
abbrev pub rows_after : List RoundDelta → StoredMap → StoredMap
rows_after [] m = m
rows_after (d ∷ ds) m = rows_after ds (after_delta d m)

-- the totals after blocks
abbrev pub totals_after : List RoundDelta → Totals → Totals
totals_after [] t = t
totals_after (d ∷ ds) t = totals_after ds d.totals

-- the reward level after blocks
abbrev pub level_after : List RoundDelta → ℕ → ℕ
level_after [] level = level
level_after (d ∷ ds) level = level_after ds d.header.level

-- the rounds are those after the base
abbrev pub AreRounds : ℕ → List RoundDelta → Type 0
AreRounds base [] = ⊤
AreRounds base (d ∷ ds) = (d.round ≡ suc base) × AreRounds (suc base) ds

-- the changes of a block rise by their keys, and what they leave may be kept; those of creators rise by their ids
pub record IsKeptDelta (d : RoundDelta) : Type 0 where
  pub ordered : IsStrictlySortedBy key_cmp (map (λ c. c.key) d.changes)
  pub kept : All (λ c. IfSome c.row (IsKept c.key)) d.changes
  pub creators : IsStrictlySortedBy nat_cmp (map (λ c. c.id) d.creators)

pub record Queue : Type 0 where
  -- the round of the rows below
  pub base : ℕ
  pub deltas : List RoundDelta
  -- the totals of the base's round
  pub totals : Totals
  -- for how many more changes there is room
  pub spare : ℕ

-- the last round
abbrev pub top : Queue → ℕ
top q = q.base + length q.deltas

-- the changes are those of the rounds after the base, and may be kept
pub record IsQueue (q : Queue) : Type 0 where
  pub rounds : AreRounds q.base q.deltas
  pub last : top q ≤ 2 ^ 62
  pub kept : All IsKeptDelta q.deltas

-- the changes of the rounds up to one
abbrev pub up_to : ℕ → Queue → List RoundDelta
up_to round q = take (round - q.base) q.deltas

-- the queue from a round on
abbrev pub from_round : ℕ → Queue → Queue
from_round round q = record { base = round; deltas = drop (round - q.base) q.deltas; totals = totals_after (up_to round q) q.totals; spare = q.spare }

-- the queue with the changes of one block more, which take a room
abbrev pub and_delta : RoundDelta → Queue → Queue
and_delta d q = record { base = q.base; deltas = q.deltas ++ d ∷ []; totals = q.totals; spare = q.spare - 1 }

-- there is room for one change more
abbrev pub with_room : Queue → Queue
with_room q = record { base = q.base; deltas = q.deltas; totals = q.totals; spare = max 1 q.spare }
