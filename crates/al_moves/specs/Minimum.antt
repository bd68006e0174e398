-- The minimum balances of what a transaction changed.
use Rattle.std.specs.Prelude.{ℕ, ◌+◌, ◌||◌, nat_lt, if◌then◌else◌, is_none}
use Rattle.std.specs.declared.option.Option.{Option}
use Rattle.std.specs.declared.option.Option.TheVariants.{None, Some}
use Rattle.std.specs.declared.result.Result.{Result}
use Rattle.std.specs.FinMap.{get, keys}
use Rattle.al_base.specs.declared.account.Special.{Special}
use Rattle.al_base.specs.declared.address.Address.{Address}
use Rattle.al_base.specs.declared.key.Key.{Key}
use Rattle.al_base.specs.declared.key.Key.TheVariants as key
use Rattle.al_rows.specs.declared.account.AccountRow.{AccountRow}
use Rattle.al_rows.specs.declared.row.Row.{Row}
use Rattle.al_rows.specs.Finite.{first_some}
use Rattle.al_rows.specs.Rows.{RowMap, min_balance, account_in, same_row}
use Rattle.al_overlay.specs.declared.rule.Rule.{Rule}
use Rattle.al_overlay.specs.Rules.{too_little, unless_refused}
use Rattle.al_overlay.specs.Accounts.{same_address, earned}

abbrev pub lacking : ℕ → Address → AccountRow → Option Rule
lacking level who r = if nat_lt (r.balance + earned level r) (min_balance r) then Some (too_little 42 (r.balance + earned level r) (min_balance r) who) else None

-- 42 at a key: an account whose row differs from the one before and is there has less than its minimum. Sink and pool may
abbrev pub shortfall : ℕ → Special → Key → Option Row → Option Row → Option Rule
shortfall level special (key.Account who) old now =
    if same_address who special.sink || same_address who special.pool || is_none now || same_row old now then None else lacking level who (account_in now)
shortfall level special (key.Resource a i) old now = None
shortfall level special (key.Box i n) old now = None

-- the first shortfall in the order of keys
unfoldable pub first_shortfall : ℕ → Special → RowMap → RowMap → Option Rule
first_shortfall level special start now = first_some (λ k. shortfall level special k (get start k) (get now k)) (keys now)

-- what changed since the start keeps its minimum
abbrev pub checked : ℕ → Special → RowMap → RowMap → Result RowMap Rule
checked level special start now = unless_refused (first_shortfall level special start now) now
