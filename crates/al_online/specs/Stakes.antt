-- What consensus asks of a round, by the Algorand ledger specification: the accounts that were online after it, each with its stake, and how much of all stake may still vote.
use Rattle.std.specs.Prelude.{ℕ, ◌+◌, ◌-◌, List, [], ◌∷◌, Bool, ◌&&◌, nat_lt, option_map}
use Rattle.std.specs.declared.option.Option.{Option}
use Rattle.std.specs.declared.option.Option.TheVariants.{None, Some}
use Rattle.std.specs.List.{filter, sum_by}
use Rattle.std.specs.FinMap.{FinMap, empty, entries, get, insert, remove}
use Rattle.al_base.specs.declared.account.Status.TheVariants.{Online}
use Rattle.al_base.specs.declared.address.Address.{Address}
use Rattle.al_base.specs.declared.online.OnlineChange.{OnlineChange}
use Rattle.al_base.specs.declared.online.OnlineData.{OnlineData}
use Rattle.al_base.specs.Keys.{address_cmp}
use Rattle.al_rewards.specs.declared.share.Share.{Share}
use Rattle.al_rewards.specs.Pending.{pending}
use Rattle.al_online.specs.declared.stake.Stake.{Stake}

-- the accounts that are online, by their addresses
abbrev pub OnlineMap : Type 0
OnlineMap = FinMap address_cmp OnlineData

-- what a state keeps of a round: its reward level, and the accounts that were online after it
pub record Snap : Type 0 where
  pub level : ℕ
  pub online : OnlineMap

-- an account that is online earns as any other
abbrev pub share_of : OnlineData → Share
share_of d = record { status = Online; balance = d.balance; base = d.base }

-- the stake of an account: its balance, and its rewards that are pending at a level
abbrev pub stake_of : ℕ → OnlineData → ℕ
stake_of level d = d.balance + pending level (share_of d)

-- the stake of accounts together
abbrev pub stake_in : ℕ → List (Address × OnlineData) → ℕ
stake_in level es = sum_by (λ e. stake_of level e.1) es

-- the keys are for rounds that all lie before the vote's: 0 is no last round
abbrev pub is_expired : ℕ → OnlineData → Bool
is_expired vote d = nat_lt 0 d.last && nat_lt d.last vote

-- the stake that may vote: that of all accounts, less that of those whose keys are expired
abbrev pub voting_in : ℕ → ℕ → List (Address × OnlineData) → ℕ
voting_in level vote es = stake_in level es - stake_in level (filter (λ e. is_expired vote e.1) es)

-- what is told of an account whose data are these
abbrev pub told : ℕ → OnlineData → Stake
told level d = record { stake = stake_of level d; first = d.first; last = d.last; dilution = d.dilution }

-- an account after a round, none where it was not online
abbrev pub stake_at : Snap → Address → Option Stake
stake_at s who = option_map (told s.level) (get s.online who)

-- the stake of all accounts after a round
abbrev pub all_stake_at : Snap → ℕ
all_stake_at s = stake_in s.level (entries s.online)

-- the stake after a round that may take part in the vote of another
abbrev pub circulation_at : Snap → ℕ → ℕ
circulation_at s vote = voting_in s.level vote (entries s.online)

-- ---- from round to round

-- the accounts with what one has become, which is nothing where it is not online
abbrev pub set_online : Address → Option OnlineData → OnlineMap → OnlineMap
set_online who None m = remove m who
set_online who (Some d) m = insert m who d

-- the accounts after the changes of a round
abbrev pub with_changes : List OnlineChange → OnlineMap → OnlineMap
with_changes [] m = m
with_changes (c ∷ cs) m = with_changes cs (set_online c.address c.now m)

-- the round that follows one, by its level and its changes
abbrev pub next_snap : ℕ → List OnlineChange → Snap → Snap
next_snap level cs s = record { level = level; online = with_changes cs s.online }

-- a round of a level, where just these accounts are online
abbrev pub first_snap : ℕ → List OnlineChange → Snap
first_snap level cs = record { level = level; online = with_changes cs empty }
