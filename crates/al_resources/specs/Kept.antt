-- What the body of a transaction keeps of sound rows.
use Rattle.std.specs.Prelude.{◌≡◌, ℕ, ◌+◌, ◌≤◌, false, List, All, IfSome}
use Rattle.std.specs.declared.option.Option.{Option}
use Rattle.std.specs.declared.option.Option.TheVariants.{Some}
use Rattle.std.specs.declared.result.Result.{Result}
use Rattle.std.specs.declared.result.Result.TheVariants.{Ok, Err}
use Rattle.al_base.specs.declared.account.Special.{Special}
use Rattle.al_base.specs.declared.address.Address.{Address}
use Rattle.al_rows.specs.Rows.{AssetParamsInRange, RowMap, account, no_address}
use Rattle.al_bodies.specs.declared.body.AppCall.{AppCall}
use Rattle.al_bodies.specs.declared.body.AssetMove.{AssetMove}
use Rattle.al_bodies.specs.declared.body.Config.{Config}
use Rattle.al_bodies.specs.declared.body.Freeze.{Freeze}
use Rattle.al_bodies.specs.declared.body.Pay.{Pay}
use Rattle.al_bodies.specs.declared.effect.Effect.{Effect}
use Rattle.al_txn.specs.Form.{is_misplaced}
use Rattle.al_overlay.specs.declared.rule.Rule.{Rule}
use Rattle.al_overlay.specs.Accounts.{same_address}
use Rattle.al_moves.specs.Money.{money}
use Rattle.al_moves.specs.Pay.{paid}
use Rattle.al_moves.specs.Resources.{app_account}
use Rattle.al_resources.specs.Assets.{configured, frozen, transferred}
use Rattle.al_bodies.specs.Ranges.{EffectInRange}
use Rattle.al_resources.specs.Effects.{called_with}
use Rattle.al_resources.specs.Sound.{IsOtherRule, SoundRows}

-- The rows are sound and all money stays. Where the pool is told, it has no less than at the start
pub record Kept (level : ℕ) (special : Option Special) (start : RowMap) (counter : ℕ) (now : RowMap) : Type 0 where
  pub rows : SoundRows level counter special now
  pub money : money level now ≡ money level start
  pub pool : IfSome special (λ s. (account start s.pool).balance ≤ (account now s.pool).balance)

-- what holds of the rows after a step, and of the rule that refuses it
abbrev pub Ends : (RowMap → Type 0) → Result RowMap Rule → Type 0
Ends P (Ok n) = P n
Ends P (Err r) = IsOtherRule r

-- What a body must keep, as it is one of so many transactions, from a count of transactions on
abbrev pub IsGood : ℕ → Option Special → RowMap → ℕ → ℕ → (RowMap → Result RowMap Rule) → Type 0
IsGood level special start counter size f = (m : RowMap) → Kept level special start counter m → Ends (Kept level special start (counter + size)) (f m)

-- each body of an asset's transaction keeps this, where what it creates has the next number, and numbers of 64 bits
pub record AssetsAreSound : Type 0 where
  pub configured : (level : ℕ) (special : Option Special) (start : RowMap) (counter size : ℕ) (who : Address) (c : Config) → 1 ≤ size → AssetParamsInRange (Some c.params) → IsGood level special start counter size (configured who c (counter + 1))
  pub transferred : (level : ℕ) (special : Option Special) (start : RowMap) (counter size : ℕ) (who : Address) (t : AssetMove) → IsGood level special start counter size (transferred who t)
  pub frozen : (level : ℕ) (special : Option Special) (start : RowMap) (counter size : ℕ) (who : Address) (f : Freeze) → IsGood level special start counter size (frozen who f)

-- ---- payments

-- where pool and sink are told, the pool does not pay, and the sink does not close
abbrev pub MayPay : Option Special → Address → Pay → Type 0
MayPay special who p = IfSome special (λ s. (same_address who s.pool ≡ false) × (same_address p.close no_address ≡ false → same_address who s.sink ≡ false))

-- a payment keeps this
pub record PaymentsAreSound : Type 0 where
  pub paid : (level : ℕ) (special : Option Special) (start : RowMap) (counter size : ℕ) (who : Address) (p : Pay) → MayPay special who p → IsGood level special start counter size (paid level who p)

-- ---- calls of applications

-- where sink and pool are told, neither is the account of an application of a number up to this one
abbrev pub AreAppsApart : Option Special → ℕ → Type 0
AreAppsApart special most = (app : ℕ) → app ≤ most → IfSome special (λ s. (same_address (app_account app) s.sink ≡ false) × (same_address (app_account app) s.pool ≡ false))

-- a call keeps this, where an effect that creates stands where it may, and all are in the ranges of their records
pub record CallsAreSound : Type 0 where
  pub called : (level : ℕ) (special : Option Special) (start : RowMap) (counter size : ℕ) (who : Address) (call : AppCall) (effects : List Effect)
      → 1 ≤ size → is_misplaced call.app effects ≡ false → All EffectInRange effects → AreAppsApart special (counter + size) → IsGood level special start counter size (called_with level who call effects (counter + 1))
