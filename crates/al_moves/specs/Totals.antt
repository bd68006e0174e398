-- What all accounts of a status have together, and what changes change of it.
use Rattle.std.specs.Prelude.{◌≡◌, ℕ, ◌+◌, List, [], ◌∷◌, if◌then◌else◌, ◌/◌}
use Rattle.std.specs.declared.option.Option.{Option}
use Rattle.std.specs.declared.option.Option.TheVariants.{None, Some}
use Rattle.std.specs.FinMap.{get}
use Rattle.al_base.specs.declared.key.Key.{Key}
use Rattle.al_rewards.specs.declared.share.Share.{Share}
use Rattle.al_rows.specs.declared.account.AccountRow.{AccountRow}
use Rattle.al_rows.specs.declared.row.Row.{Row}
use Rattle.al_rows.specs.Rows.{RowMap, same_status}
use Rattle.al_overlay.specs.declared.held.Held.{Held}
use Rattle.al_base.specs.declared.account.Status.{Status}
use Rattle.al_base.specs.declared.account.Status.TheVariants.{Offline, Online, NotParticipating}
use Rattle.al_rewards.specs.Pending.{reward_unit}
use Rattle.al_rewards.specs.Totals.{all_units, and_share, capped_totals, raised, without_share}
use Rattle.al_rewards.specs.declared.totals.Count.{Count}
use Rattle.al_rewards.specs.declared.totals.Totals.{Totals}
use Rattle.al_rows.specs.declared.row.Row.TheVariants as row
use Rattle.al_rows.specs.Finite.{total}
use Rattle.al_overlay.specs.Accounts.{share_of}
use Rattle.al_overlay.specs.Held.{now_at}
use Rattle.al_moves.specs.Money.{worth, money, IsExact, units}

-- what a row has as money, and as units, of accounts of a status
abbrev pub money_at : ℕ → Status → Row → ℕ
money_at level status (row.Account r) = if same_status r.status status then worth level (row.Account r) else 0
money_at level status (row.Asset a) = 0
money_at level status (row.App a) = 0
money_at level status (row.Box b) = 0

abbrev pub units_at : Status → Row → ℕ
units_at status (row.Account r) = if same_status r.status status then r.balance / reward_unit else 0
units_at status (row.Asset a) = 0
units_at status (row.App a) = 0
units_at status (row.Box b) = 0

-- what all accounts of a status have together at a level, added up over all rows
abbrev pub count : ℕ → Status → RowMap → Count
count level status m = record { money = total (λ k r. money_at level status r) m; units = total (λ k r. units_at status r) m }

-- the same of every status
unfoldable pub counts : ℕ → RowMap → Totals
counts level m = record { level = level; online = count level Online m; offline = count level Offline m; apart = count level NotParticipating m }

-- at a higher level the totals of the same rows are those that were raised
abbrev pub RiseIsCounted : Type 0
RiseIsCounted = (level rise : ℕ) (m : RowMap) → ((k : Key) (r : AccountRow) → get m k ≡ Some (row.Account r) → IsExact level rise r)
    → counts (level + rise) m ≡ raised (level + rise) (counts level m)

-- the counts of the three statuses are all the money and all the units that earn
pub record MoneyIsCounted : Type 0 where
  pub money : (level : ℕ) (m : RowMap) → money level m ≡ (counts level m).online.money + (counts level m).offline.money + (counts level m).apart.money
  pub units : (level : ℕ) (m : RowMap) → total (λ k r. units r) m ≡ all_units (counts level m)

-- an account's share of the totals; a row of another kind has none
abbrev pub share_at : Option Row → Option Share
share_at None = None
share_at (Some (row.Account r)) = Some (share_of r)
share_at (Some (row.Asset a)) = None
share_at (Some (row.App a)) = None
share_at (Some (row.Box b)) = None

-- totals with a share in place of another; each number stops at 0 and at 2^64 - 1
abbrev pub in_place : Totals → Option Share → Option Share → Totals
in_place t old new = capped_totals (and_share (without_share t old) new)

-- totals with each changed row in place of what stood there before
abbrev pub recounted : List (Key × Option Row) → Totals → List (Key × Option Row) → Totals
recounted before t [] = t
recounted before t (e ∷ es) = recounted before (in_place t (share_at (now_at before e.0)) (share_at e.1)) es

-- totals with each row now in place of what stood there before the block
abbrev pub counted_anew : Totals → List (Key × Held) → Totals
counted_anew t [] = t
counted_anew t (e ∷ es) = counted_anew (in_place t (share_at e.1.block) (share_at e.1.row)) es
