-- What consensus may ask of a round: its reward level, and the accounts that were online after it.
use Rattle.std.specs.Prelude.{ℕ}
use Rattle.std.specs.declared.option.Option.{Option}
use Rattle.std.specs.declared.option.Option.TheVariants.{None, Some}
use Rattle.std.specs.FinMap.{entries, from_entries}
use Rattle.std.specs.List.{filter_map}
use Rattle.std.specs.Option.{option_map}
use Rattle.al_base.specs.declared.address.Address.{Address}
use Rattle.al_base.specs.declared.key.Key.{Key}
use Rattle.al_base.specs.declared.key.Key.TheVariants as key
use Rattle.al_base.specs.declared.online.OnlineData.{OnlineData}
use Rattle.al_rows.specs.declared.row.Row.{Row}
use Rattle.al_rows.specs.Rows.{RowMap, account_in}
use Rattle.al_moves.specs.Online.{online_of}
use Rattle.al_online.specs.Stakes.{OnlineMap, Snap}

-- an account that is online, by its row
abbrev pub online_in : Key → Row → Option (Address × OnlineData)
online_in (key.Account who) r = option_map (λ d. (who, d)) (online_of (account_in (Some r)))
online_in (key.Resource who id) r = None
online_in (key.Box app name) r = None

-- the accounts that are online, over all rows
abbrev pub all_online : RowMap → OnlineMap
all_online m = from_entries (filter_map (λ e. online_in e.0 e.1) (entries m))

-- a round of a level, after which these are the rows
abbrev pub snap_of : ℕ → RowMap → Snap
snap_of level m = record { level = level; online = all_online m }
