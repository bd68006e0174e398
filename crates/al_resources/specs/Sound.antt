-- What is sound of rows: money, ids, holdings and counts agree with one another.
use Rattle.std.specs.Prelude.{◌≡◌, ◌≢◌, ℕ, ◌≤◌, Bool, true, false, nat_eq, if◌then◌else◌, length, IfSome}
use Rattle.std.specs.declared.option.Option.{Option}
use Rattle.std.specs.declared.option.Option.TheVariants.{None, Some}
use Rattle.std.specs.FinMap.{get}
use Rattle.al_base.specs.declared.account.Special.{Special}
use Rattle.al_base.specs.declared.account.Status.TheVariants.{NotParticipating}
use Rattle.al_base.specs.declared.address.Address.{Address}
use Rattle.al_base.specs.declared.asset.AssetParams.{AssetParams}
use Rattle.al_base.specs.declared.key.Key.{Key}
use Rattle.al_base.specs.declared.key.Key.TheVariants as key
use Rattle.al_rewards.specs.Pending.{is_apart}
use Rattle.al_rows.specs.declared.account.AccountRow.{AccountRow}
use Rattle.al_rows.specs.declared.row.Row.{Row}
use Rattle.al_rows.specs.declared.row.Row.TheVariants as row
use Rattle.al_rows.specs.Finite.{total}
use Rattle.al_rows.specs.Limits.{max_balance}
use Rattle.al_rows.specs.Rows.{AccountInRange, AssetParamsInRange, HoldingInRange, LocalInRange, ParamsInRange, RowMap, account, has_params}
use Rattle.al_overlay.specs.declared.rule.Rule.{Rule}
use Rattle.al_moves.specs.Money.{money}
use Rattle.al_moves.specs.Resources.{CountsAgree}
use Rattle.al_resources.specs.Assets.{amount_in}

-- ---- assets and applications

abbrev pub same_kind : Row → Row → Bool
same_kind (row.Asset a) (row.Asset b) = true
same_kind (row.App a) (row.App b) = true
same_kind r s = false

-- an id of an asset or an application was given, belongs to one kind, and has at most one creator
pub record ResourcesAgree (counter : ℕ) (m : RowMap) : Type 0 where
  pub given : (who : Address) (id : ℕ) (r : Row) → get m (key.Resource who id) ≡ Some r → id ≤ counter
  pub kinds : (a b : Address) (id : ℕ) (r s : Row) → get m (key.Resource a id) ≡ Some r → get m (key.Resource b id) ≡ Some s → same_kind r s ≡ true
  pub creators : (a b : Address) (id : ℕ) (r s : Row) → get m (key.Resource a id) ≡ Some r → get m (key.Resource b id) ≡ Some s → has_params r ≡ true → has_params s ≡ true → a ≡ b

abbrev pub total_in : Option AssetParams → ℕ
total_in None = 0
total_in (Some p) = p.total

-- what a row holds of an asset, and what was issued of it
abbrev pub holding_of : ℕ → Key → Row → ℕ
holding_of id (key.Resource who i) (row.Asset a) = if nat_eq i id then amount_in a.holding else 0
holding_of id k r = 0

abbrev pub issued_of : ℕ → Key → Row → ℕ
issued_of id (key.Resource who i) (row.Asset a) = if nat_eq i id then total_in a.params else 0
issued_of id k r = 0

-- ---- sound rows

-- a row is of its key's kind, and its fields are in their ranges
abbrev pub FieldsInRange : Key → Row → Type 0
FieldsInRange (key.Account who) (row.Account r) = AccountInRange r
FieldsInRange (key.Resource who id) (row.Asset a) = AssetParamsInRange a.params × HoldingInRange a.holding
FieldsInRange (key.Resource who id) (row.App a) = ParamsInRange a.params × LocalInRange a.local
FieldsInRange (key.Box app name) (row.Box b) = length b.value ≤ 32768
FieldsInRange k r = ⊥

-- What is sound of rows, at a reward level and a count of all transactions. Where sink and pool are told, they are there and do not participate
pub record SoundRows (level counter : ℕ) (special : Option Special) (m : RowMap) : Type 0 where
  pub money : money level m ≤ max_balance
  pub bases : (k : Key) (r : AccountRow) → get m k ≡ Some (row.Account r) → is_apart r.status ≡ false → r.base ≤ level
  pub ranges : (k : Key) (r : Row) → get m k ≡ Some r → FieldsInRange k r
  pub resources : ResourcesAgree counter m
  pub holdings : (id : ℕ) → total (holding_of id) m ≡ total (issued_of id) m
  pub counts : (who : Address) → CountsAgree m who
  pub sink : IfSome special (λ s. (account m s.sink).status ≡ NotParticipating)
  pub pool : IfSome special (λ s. (account m s.pool).status ≡ NotParticipating)

-- a rule other than those on what passes the most: 41 of a balance, 53 of a holding
abbrev pub IsOtherRule : Rule → Type 0
IsOtherRule r = (r.number ≢ 41) × (r.number ≢ 53)
