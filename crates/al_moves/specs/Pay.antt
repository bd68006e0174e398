-- Payments and rekeys by the Algorand ledger specification.
use Rattle.std.specs.Prelude.{ℕ, Bool, not, ◌&&◌, ◌||◌, nat_eq, if◌then◌else◌}
use Rattle.std.specs.declared.option.Option.TheVariants.{None}
use Rattle.std.specs.declared.result.Result.{Result}
use Rattle.std.specs.declared.result.Result.TheVariants.{Ok, Err}
use Rattle.al_base.specs.declared.address.Address.{Address}
use Rattle.al_base.specs.declared.key.Key.TheVariants as key
use Rattle.al_rows.specs.declared.account.AccountRow.{AccountRow}
use Rattle.al_rows.specs.Finite.{set_at}
use Rattle.al_rows.specs.Rows.{RowMap, no_address, account}
use Rattle.al_bodies.specs.declared.body.Pay.{Pay}
use Rattle.al_overlay.specs.declared.rule.Rule.{Rule}
use Rattle.al_overlay.specs.Rules.{then_do, of_account}
use Rattle.al_overlay.specs.Accounts.{same_address, credited, put_account, moved}

-- no asset, application, schema entry, extra page or box
abbrev pub has_no_counts : AccountRow → Bool
has_no_counts r =
    nat_eq r.assets_held 0 && nat_eq r.assets_created 0 && nat_eq r.apps_created 0 && nat_eq r.apps_opted 0 && nat_eq r.extra_pages 0
    && nat_eq r.uints 0 && nat_eq r.byte_slices 0 && nat_eq r.boxes 0 && nat_eq r.box_bytes 0

-- the whole rest of an account goes to its close address, and then its row: 43 where that is its own address, or it has a count that is not zero
unfoldable pub closed_at : ℕ → Address → Address → AccountRow → RowMap → Result RowMap Rule
closed_at level who to r m =
    if same_address to who || not (has_no_counts r) then Err (of_account 43 who)
    else then_do (moved level who to (credited level r).balance m) (λ n. Ok (set_at n (key.Account who) None))

unfoldable pub closed : ℕ → Address → Address → RowMap → Result RowMap Rule
closed level who to m = closed_at level who to (account m who) m

unfoldable pub paid_amount : ℕ → Address → Pay → RowMap → Result RowMap Rule
paid_amount level who p m = if nat_eq p.amount 0 && same_address p.receiver no_address then Ok m else moved level who p.receiver p.amount m

unfoldable pub paid_close : ℕ → Address → Pay → RowMap → Result RowMap Rule
paid_close level who p m = if same_address p.close no_address then Ok m else closed level who p.close m

-- the amount moves where it or the receiver is not zero, and then a close address that is not zero is paid the rest
unfoldable pub paid : ℕ → Address → Pay → RowMap → Result RowMap Rule
paid level who p m = then_do (paid_amount level who p m) (λ n. paid_close level who p n)

-- a rekey that is not zero sets who signs for the account, zero where that is itself
unfoldable pub rekeyed : Address → Address → RowMap → Result RowMap Rule
rekeyed who to m =
    if same_address to no_address then Ok m
    else put_account m who (record (account m who) { auth = if same_address to who then no_address else to })
