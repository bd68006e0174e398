-- What consensus knows of accounts that differs from before.
use Rattle.std.specs.Prelude.{◌≡◌, List, map, filter_map, Bool, true, false, ◌&&◌, nat_eq, if◌then◌else◌}
use Rattle.std.specs.declared.option.Option.{Option}
use Rattle.std.specs.declared.option.Option.TheVariants.{None, Some}
use Rattle.std.specs.BTreeMap.{is_at}
use Rattle.std.specs.List.Sorted.{IsStrictlySortedBy}
use Rattle.std.specs.Map.{lookup}
use Rattle.al_base.specs.Keys.{address_cmp}
use Rattle.al_base.specs.declared.address.Address.{Address}
use Rattle.al_base.specs.declared.key.Key.{Key}
use Rattle.al_base.specs.declared.key.Key.TheVariants as key
use Rattle.al_base.specs.declared.online.OnlineChange.{OnlineChange}
use Rattle.al_base.specs.declared.online.OnlineData.{OnlineData}
use Rattle.al_rows.specs.declared.account.AccountRow.{AccountRow}
use Rattle.al_rows.specs.Rows.{RowMap, account, account_in, same_bytes}
use Rattle.al_overlay.specs.declared.held.Held.{Held}
use Rattle.al_moves.specs.Keys.{is_online}

-- what consensus knows of an account, none where it is not online
abbrev pub online_of : AccountRow → Option OnlineData
online_of r =
    if is_online r.status then Some (record { balance = r.balance; base = r.base; first = r.first; last = r.last; dilution = r.dilution; vote = r.vote; selection = r.selection })
    else None

abbrev pub online_at : RowMap → Address → Option OnlineData
online_at m who = online_of (account m who)

abbrev pub same_online : Option OnlineData → Option OnlineData → Bool
same_online None None = true
same_online (Some a) (Some b) =
    nat_eq a.balance b.balance && nat_eq a.base b.base && nat_eq a.first b.first && nat_eq a.last b.last && nat_eq a.dilution b.dilution
    && same_bytes a.vote b.vote && same_bytes a.selection b.selection
same_online a b = false

abbrev pub online_change_of : OnlineChange → Address × Option OnlineData
online_change_of c = (c.address, c.now)

-- the accounts of which consensus knows something else than before, in the order of addresses
pub record AreOnlineChanges (block now : RowMap) (changes : List (Address × Option OnlineData)) : Type 0 where
  pub ordered : IsStrictlySortedBy address_cmp (map (λ e. e.0) changes)
  pub each : (who : Address) → lookup (is_at (address_cmp who)) changes ≡ (if same_online (online_at block who) (online_at now who) then None else Some (online_at now who))

-- what consensus knows of an account, where it differs from before
abbrev pub changed_online : Address → Option OnlineData → Option OnlineData → Option (Address × Option OnlineData)
changed_online who before now = if same_online before now then None else Some (who, now)

-- the same of what is held under a key, which is none where it is no account's
abbrev pub changed_at : Key → Held → Option (Address × Option OnlineData)
changed_at (key.Account who) h = changed_online who (online_of (account_in h.block)) (online_of (account_in h.row))
changed_at (key.Resource who id) h = None
changed_at (key.Box app name) h = None

-- the accounts that differ among the rows that are held
abbrev pub changed_onlines : List (Key × Held) → List (Address × Option OnlineData)
changed_onlines es = filter_map (λ e. changed_at e.0 e.1) es
