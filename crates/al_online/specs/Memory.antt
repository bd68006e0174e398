-- What is remembered of the last rounds for consensus.
use Rattle.std.specs.Prelude.{ℕ, ◌+◌, ◌-◌, List, [], ◌∷◌, ◌++◌, length, map, drop, take, slice_get}
use Rattle.std.specs.declared.option.Option.{Option}
use Rattle.std.specs.declared.option.Option.TheVariants.{None, Some}
use Rattle.std.specs.List.{IsDistinct}
use Rattle.std.specs.Ordering.{eq_by_cmp}
use Rattle.al_base.specs.declared.online.OnlineChange.{OnlineChange}
use Rattle.al_base.specs.Keys.{address_cmp}
use Rattle.al_online.specs.declared.stake.RoundParams.{RoundParams}
use Rattle.al_online.specs.declared.stake.Stake.{Stake}
use Rattle.al_online.specs.Stakes.{Snap, all_stake_at, next_snap}
use Rattle.al_rewards.specs.Totals.{capped}

-- the rounds from a base on, one after another
pub record Memory : Type 0 where
  pub base : ℕ
  pub snaps : List Snap

-- the last round
abbrev pub top : Memory → ℕ
top m = m.base + (length m.snaps - 1)

-- what is remembered of a round
abbrev pub snap_at : Memory → ℕ → Option Snap
snap_at m round = slice_get m.snaps (round - m.base)

-- no account is changed twice
abbrev pub IsEachOnce : List OnlineChange → Type 0
IsEachOnce cs = IsDistinct (eq_by_cmp address_cmp) (map (λ c. c.address) cs)

-- what follows the last round, if there is one
abbrev pub followed : ℕ → List OnlineChange → Option Snap → List Snap
followed level cs None = []
followed level cs (Some last) = next_snap level cs last ∷ []

-- the rounds with one more
abbrev pub and_round : ℕ → List OnlineChange → Memory → Memory
and_round level cs m = record m { snaps = m.snaps ++ followed level cs (slice_get m.snaps (length m.snaps - 1)) }

-- the rounds without the last
abbrev pub without_last : Memory → Memory
without_last m = record m { snaps = take (length m.snaps - 1) m.snaps }

-- the rounds from one on
abbrev pub from_round : ℕ → Memory → Memory
from_round round m = record { base = round; snaps = drop (round - m.base) m.snaps }

-- ---- in numbers of 64 bits, where a stake that passes them is the greatest

abbrev pub capped_stake : Stake → Stake
capped_stake s = record s { stake = capped s.stake }

-- the level of a round, and the stake of all accounts
abbrev pub params_of : Snap → RoundParams
params_of s = record { level = s.level; online = capped (all_stake_at s) }
