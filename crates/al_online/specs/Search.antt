-- A list of accounts in the order of their addresses.
use Rattle.std.specs.Prelude.{◌≡◌, ℕ, ◌<◌, ◌≤◌, Bool, T, not, List, [], ◌∷◌, length, if◌then◌else◌}
use Rattle.std.specs.declared.cmp.Ordering.TheVariants.{Less, Equal, Greater}
use Rattle.std.specs.declared.option.Option.{Option}
use Rattle.std.specs.declared.option.Option.TheVariants.{None, Some}
use Rattle.std.specs.FinMap.{is_sorted, put}
use Rattle.std.specs.FinMap.Entries.{where_key}
use Rattle.std.specs.List.{AllWithin, HoldsAt}
use Rattle.std.specs.Ordering.{eq_by_cmp}
use Rattle.al_base.specs.declared.address.Address.{Address}
use Rattle.al_base.specs.declared.online.OnlineChange.{OnlineChange}
use Rattle.al_base.specs.declared.online.OnlineData.{OnlineData}
use Rattle.al_base.specs.Keys.{address_cmp}
use Rattle.al_online.specs.Stakes.{is_expired, stake_of}

-- accounts that are online
abbrev pub Accounts : Type 0
Accounts = List (Address × OnlineData)

-- they are in the order of their addresses, each once
abbrev pub AreInOrder : Accounts → Type 0
AreInOrder es = T (is_sorted address_cmp es)

-- the account stands at this place
pub record IsPlaceOf (es : Accounts) (who : Address) (i : ℕ) : Type 0 where
  pub within : i < length es
  pub tied : HoldsAt (λ e. address_cmp e.0 who ≡ Equal) es i

-- the account stands nowhere, and would stand at this place
pub record IsGapFor (es : Accounts) (who : Address) (i : ℕ) : Type 0 where
  pub within : i ≤ length es
  pub below : AllWithin (λ e. address_cmp e.0 who ≡ Less) es 0 i
  pub above : AllWithin (λ e. address_cmp e.0 who ≡ Greater) es i (length es)

-- the accounts without one
abbrev pub without_account : Address → Accounts → Accounts
without_account who es = where_key address_cmp (λ a. not (eq_by_cmp address_cmp who a)) es

-- the accounts with what one has become
abbrev pub put_account : Address → Option OnlineData → Accounts → Accounts
put_account who None es = without_account who es
put_account who (Some d) es = put address_cmp who d es

-- the accounts after changes
abbrev pub put_accounts : List OnlineChange → Accounts → Accounts
put_accounts [] es = es
put_accounts (c ∷ cs) es = put_accounts cs (put_account c.address c.now es)

-- the stake with which an account may take part in a vote
abbrev pub voting_stake : ℕ → ℕ → OnlineData → ℕ
voting_stake level vote d = if is_expired vote d then 0 else stake_of level d
