-- An amount that flows out of an account or into it, over the account's row alone.
use Rattle.std.specs.Prelude.{◌≡◌, ℕ, ◌+◌, ◌-◌, List, Bool, nat_lt, if◌then◌else◌, cond, ⊤, OnOk, OnErr}
use Rattle.std.specs.declared.option.Option.{Option}
use Rattle.std.specs.declared.option.Option.TheVariants.{None, Some}
use Rattle.std.specs.declared.result.Result.{Result}
use Rattle.std.specs.declared.result.Result.TheVariants.{Ok, Err}
use Rattle.std.specs.BTreeMap.{is_at}
use Rattle.al_base.specs.declared.address.Address.{Address}
use Rattle.al_base.specs.declared.key.Key.{Key}
use Rattle.al_base.specs.declared.key.Key.TheVariants as key
use Rattle.al_base.specs.Keys.{key_cmp}
use Rattle.al_rewards.specs.declared.share.Share.{Share}
use Rattle.al_rewards.specs.Pending.{is_apart, pending}
use Rattle.al_rows.specs.declared.account.AccountRow.{AccountRow}
use Rattle.al_rows.specs.declared.row.Row.{Row}
use Rattle.al_rows.specs.declared.row.Row.TheVariants as row
use Rattle.al_rows.specs.Limits.{max_balance}
use Rattle.al_rows.specs.Rows.{RowMap, account_in}
use Rattle.al_overlay.specs.declared.flow.Flow.{Flow}
use Rattle.al_overlay.specs.declared.flow.Flow.TheVariants.{Out, In}
use Rattle.al_overlay.specs.declared.held.Held.{Held}
use Rattle.al_overlay.specs.declared.rule.Rule.{Rule}
use Rattle.al_overlay.specs.declared.rule.Stop.{Stop}
use Rattle.al_overlay.specs.declared.rule.Stop.TheVariants as stop
use Rattle.al_overlay.specs.Accounts.{give, share_of, take_in}
use Rattle.al_overlay.specs.Held.{AreInOrder, at, put_first}
use Rattle.al_overlay.specs.Rules.{then_do, of_account, too_little}
use Rattle.al_overlay.specs.Work.{nonzero}

-- the rows after an account gives an amount, or takes it in
abbrev pub after_flow : ℕ → Address → Flow → RowMap → Result RowMap Rule
after_flow level who (Out amount) m = give level who amount m
after_flow level who (In amount) m = take_in level who amount m

-- 41: no balance passes the most
abbrev pub within : Address → ℕ → Result ℕ Rule
within who balance = if nat_lt max_balance balance then Err (of_account 41 who) else Ok balance

-- the balance after a flow: 40 where the amount is larger than what there is
abbrev pub balance_after : Address → Flow → ℕ → Result ℕ Rule
balance_after who (Out amount) has = if nat_lt has amount then Err (too_little 40 has amount who) else within who (has - amount)
balance_after who (In amount) has = within who (has + amount)

-- a share with its pending rewards given to it
abbrev pub credited_share : ℕ → Share → Share
credited_share level s = if is_apart s.status then s else record s { balance = s.balance + pending level s; base = level }

-- the row of an account with this balance and reward base, a zero row being none
abbrev pub with_balance : ℕ → ℕ → Option Row → Option Row
with_balance balance base r = nonzero (Some (row.Account (record (account_in r) { balance = balance; base = base })))

-- the row of an account after a flow
abbrev pub flowed : ℕ → Address → Flow → Option Row → Result (Option Row) Rule
flowed level who f r =
    let s = credited_share level (share_of (account_in r)) in
    then_do (balance_after who f s.balance) (λ balance. Ok (with_balance balance s.base r))

-- the row after a step is what it gives, and its refusal is the one that it gives; it asks no view
abbrev pub GivesRow : {F T : Type 0} → Result (Option Row) Rule → Result T (Stop F) → Option Row → Type 0
GivesRow due (Ok x) new = due ≡ Ok new
GivesRow due (Err (stop.Rule r)) new = due ≡ Err r
GivesRow due (Err (stop.View f)) new = ⊥
GivesRow due (Err stop.Memory) new = ⊤

-- an amount flows out of an account that is held, or into it, and what stood there when the transaction began is kept
pub record IsFlow {F T : Type 0} (level : ℕ) (who : Address) (f : Flow) (es fs : List (Key × Held)) (ss ts : List (Key × Option Row)) (result : Result T (Stop F)) : Type 0 where
  pub was : Held
  pub now : Held
  pub there : Some was ≡ at es (key.Account who)
  pub updates : (q : Key) → at fs q ≡ cond (is_at (key_cmp (key.Account who)) q) (Some now) (at es q)
  pub block : now.block ≡ was.block
  pub gives : GivesRow (flowed level who f was.row) result now.row
  pub kept : OnOk result (AreInOrder ss → ts ≡ put_first (key.Account who) was.row ss)
  pub stays : OnErr result ((now.row ≡ was.row) × (ts ≡ ss))
