-- What a move of microAlgos does to accounts by the Algorand ledger specification: pending rewards are given, and no balance passes the most.
use Rattle.std.specs.Prelude.{ℕ, ◌+◌, ◌-◌, Bool, nat_lt, if◌then◌else◌}
use Rattle.std.specs.declared.result.Result.{Result}
use Rattle.std.specs.declared.result.Result.TheVariants.{Ok, Err}
use Rattle.al_base.specs.declared.address.Address.{Address}
use Rattle.al_rewards.specs.declared.share.Share.{Share}
use Rattle.al_rewards.specs.Pending.{is_apart, pending}
use Rattle.al_rows.specs.Limits.{max_balance}
use Rattle.al_rows.specs.declared.account.AccountRow.{AccountRow}
use Rattle.al_rows.specs.Rows.{RowMap, same_bytes, account, set_account}
use Rattle.al_overlay.specs.declared.rule.Rule.{Rule}
use Rattle.al_overlay.specs.Rules.{then_do, too_little, of_account}

abbrev pub same_address : Address → Address → Bool
same_address a b = same_bytes a.0 b.0

abbrev pub share_of : AccountRow → Share
share_of r = record { status = r.status; balance = r.balance; base = r.base }

-- the rewards of an account that are not yet in its balance
abbrev pub earned : ℕ → AccountRow → ℕ
earned level r = pending level (share_of r)

-- the account with its pending rewards given to it
abbrev pub credited : ℕ → AccountRow → AccountRow
credited level r = if is_apart r.status then r else record r { balance = r.balance + earned level r; base = level }

-- 41: no balance passes the most
abbrev pub put_account : RowMap → Address → AccountRow → Result RowMap Rule
put_account m who r = if nat_lt max_balance r.balance then Err (of_account 41 who) else Ok (set_account m who r)

-- an account that was credited gives an amount: 40 where it is larger than its balance
abbrev pub given : RowMap → Address → ℕ → AccountRow → Result RowMap Rule
given m who amount r = if nat_lt r.balance amount then Err (too_little 40 r.balance amount who) else put_account m who (record r { balance = r.balance - amount })

abbrev pub taken : RowMap → Address → ℕ → AccountRow → Result RowMap Rule
taken m who amount r = put_account m who (record r { balance = r.balance + amount })

unfoldable pub give : ℕ → Address → ℕ → RowMap → Result RowMap Rule
give level who amount m = given m who amount (credited level (account m who))

unfoldable pub take_in : ℕ → Address → ℕ → RowMap → Result RowMap Rule
take_in level who amount m = taken m who amount (credited level (account m who))

-- an amount moves: the giver is given its pending rewards and gives it, and then the receiver likewise takes it
unfoldable pub moved : ℕ → Address → Address → ℕ → RowMap → Result RowMap Rule
moved level from to amount m = then_do (give level from amount m) (λ n. take_in level to amount n)
