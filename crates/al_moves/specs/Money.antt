-- The money of all accounts.
use Rattle.std.specs.Prelude.{◌≡◌, ℕ, ◌+◌, ◌-◌, if◌then◌else◌, false, ◌≤◌, ◌≢◌, ◌*◌, ◌/◌}
use Rattle.std.specs.declared.option.Option.TheVariants.{Some}
use Rattle.std.specs.declared.result.Result.{Result}
use Rattle.std.specs.declared.result.Result.TheVariants.{Ok, Err}
use Rattle.std.specs.FinMap.{get}
use Rattle.al_base.specs.declared.account.Special.{Special}
use Rattle.al_base.specs.declared.address.Address.{Address}
use Rattle.al_base.specs.declared.key.Key.{Key}
use Rattle.al_rewards.specs.Pending.{is_apart, reward_unit}
use Rattle.al_rows.specs.Limits.{max_balance}
use Rattle.al_rows.specs.declared.account.AccountRow.{AccountRow}
use Rattle.al_rows.specs.declared.row.Row.{Row}
use Rattle.al_rows.specs.Rows.{RowMap}
use Rattle.al_bodies.specs.declared.body.Pay.{Pay}
use Rattle.al_overlay.specs.declared.rule.Rule.{Rule}
use Rattle.al_rows.specs.declared.row.Row.TheVariants as row
use Rattle.al_rows.specs.Finite.{total}
use Rattle.al_overlay.specs.Accounts.{earned, moved}
use Rattle.al_moves.specs.Pay.{paid, rekeyed}
use Rattle.al_moves.specs.Minimum.{checked}

-- what a row is worth at a level: an account's balance and pending rewards
abbrev pub worth : ℕ → Row → ℕ
worth level (row.Account r) = r.balance + earned level r
worth level (row.Asset a) = 0
worth level (row.App a) = 0
worth level (row.Box b) = 0

-- the money of all accounts, added up over all rows
unfoldable pub money : ℕ → RowMap → ℕ
money level m = total (λ k r. worth level r) m

-- no money is made or lost, and no balance passes the most where all the money does not
abbrev pub IsFair : ℕ → RowMap → Result RowMap Rule → Type 0
IsFair level m (Ok n) = money level n ≡ money level m
IsFair level m (Err r) = money level m ≤ max_balance → r.number ≢ 41

-- a move, a payment, a rekey and the test of minimum balances make or lose no money
pub record MovesAreFair : Type 0 where
  pub moved : (level : ℕ) (from to : Address) (amount : ℕ) (m : RowMap) → IsFair level m (moved level from to amount m)
  pub paid : (level : ℕ) (who : Address) (p : Pay) (m : RowMap) → IsFair level m (paid level who p m)
  pub rekeyed : (level : ℕ) (who to : Address) (m : RowMap) → IsFair level m (rekeyed who to m)
  pub checked : (level : ℕ) (special : Special) (start m : RowMap) → IsFair level m (checked level special start m)

-- an account whose rewards are counted exactly at a higher level: its base is at most the level, and nothing is cut off
abbrev pub IsExact : ℕ → ℕ → AccountRow → Type 0
IsExact level rise r = is_apart r.status ≡ false → (r.base ≤ level) × (r.balance / reward_unit * (level + rise - r.base) ≤ max_balance)

abbrev pub units : Row → ℕ
units (row.Account r) = if is_apart r.status then 0 else r.balance / reward_unit
units (row.Asset a) = 0
units (row.App a) = 0
units (row.Box b) = 0

-- at a higher level the money of the same rows is more by what all units earn
abbrev pub RiseIsEarned : Type 0
RiseIsEarned = (level rise : ℕ) (m : RowMap) → ((k : Key) (r : AccountRow) → get m k ≡ Some (row.Account r) → IsExact level rise r)
    → money (level + rise) m ≡ money level m + rise * total (λ k r. units r) m

-- all the money is at most twice what a balance may be: where a level has risen and the pool has not yet paid, it is more than the one by at most what the pool holds
unfoldable pub IsWithin : ℕ → RowMap → Type 0
IsWithin level m = money level m ≤ 2 * max_balance
