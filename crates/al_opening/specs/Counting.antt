-- What all accounts of tables have together, as it is counted page by page.
use Rattle.std.specs.Prelude.{◌≡◌, ℕ, ◌+◌, ◌≤◌, ◌<◌, List, [], ◌∷◌, ◌++◌, length, ⊤}
use Rattle.std.specs.declared.option.Option.{Option}
use Rattle.std.specs.declared.option.Option.TheVariants.{None, Some}
use Rattle.std.specs.declared.result.Result.{Result}
use Rattle.std.specs.declared.result.Result.TheVariants.{Ok, Err}
use Rattle.std.specs.FinMap.{FinMap}
use Rattle.al_base.specs.declared.key.Key.{Key}
use Rattle.al_base.specs.Keys.{key_cmp}
use Rattle.al_rows.specs.declared.row.Row.{Row}
use Rattle.al_rows.specs.declared.row.Row.TheVariants as row
use Rattle.al_rows.specs.declared.stored.Keyed.{Keyed}
use Rattle.al_rows.specs.declared.stored.Stored.{Stored}
use Rattle.al_rows.specs.Above.{rows_above}
use Rattle.al_rows.specs.Limits.{max_balance}
use Rattle.al_rows.specs.Rows.{bare}
use Rattle.al_rewards.specs.declared.totals.Totals.{Totals}
use Rattle.al_rewards.specs.Totals.{and_share, capped_totals}
use Rattle.al_overlay.specs.Accounts.{share_of}
use Rattle.al_moves.specs.Totals.{counts}
use Rattle.al_opening.specs.declared.refusal.StartRefusal.{StartRefusal}
use Rattle.al_opening.specs.declared.refusal.StartRefusal.TheVariants as refusals

-- the money of the accounts of all statuses
abbrev pub all_money : Totals → ℕ
all_money t = t.online.money + t.offline.money + t.apart.money

-- totals with an account's share more, each number at most 2^64 - 1; a row of another kind has none
abbrev pub and_row : Totals → Row → Totals
and_row t (row.Account r) = capped_totals (and_share t (Some (share_of r)))
and_row t (row.Asset a) = t
and_row t (row.App a) = t
and_row t (row.Box b) = t

-- totals with the shares of rows more
abbrev pub and_rows : Totals → List Keyed → Totals
and_rows t [] = t
and_rows t (r ∷ rs) = and_rows (and_row t r.stored.row) rs

-- the key of the last row of a page, none where the page is not full
abbrev pub EndsAt : List Keyed → Option Key → Type 0
EndsAt rows None = length rows < 512
EndsAt rows (Some k) = (front : List Keyed) × (last : Keyed) × (rows ≡ front ++ last ∷ []) × (last.key ≡ k)

-- the shares of the first rows above a key came into totals, and this is the last key of them, if the page is full
pub record AddsPage (m : FinMap key_cmp Stored) (after : Option Key) (old : Totals) (last : Option Key) (new : Totals) : Type 0 where
  pub added : new ≡ and_rows old (rows_above after 512 m)
  pub ends : EndsAt (rows_above after 512 m) last

-- the accounts of rows have more than they may have, where the money of each status is counted up to 2^64 - 1
pub record IsTooMuch (level : ℕ) (rows : FinMap key_cmp Stored) (counted : ℕ) : Type 0 where
  pub capped : counted ≡ all_money (capped_totals (counts level (bare rows)))
  pub above : max_balance < counted
  pub more : max_balance < all_money (counts level (bare rows))

-- the accounts of rows have this together, which is at most what they may have; or they have more
abbrev pub CountsTo : {F G : Type 0} → ℕ → FinMap key_cmp Stored → Result Totals (StartRefusal F G) → Type 0
CountsTo level rows (Ok t) = (t ≡ counts level (bare rows)) × (all_money t ≤ max_balance)
CountsTo level rows (Err (refusals.Total counted)) = IsTooMuch level rows counted
CountsTo level rows (Err (refusals.Tables f)) = ⊤
CountsTo level rows (Err refusals.Memory) = ⊤
CountsTo level rows (Err (refusals.Blocks f)) = ⊥
CountsTo level rows (Err (refusals.Gap tables first last)) = ⊥
CountsTo level rows (Err (refusals.BadBlock round)) = ⊥
CountsTo level rows (Err (refusals.OtherGenesis kept)) = ⊥
