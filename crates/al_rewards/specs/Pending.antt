-- The rewards of an account by the Algorand ledger specification: each whole Algo of its balance is a unit, and a unit earns by how much the reward level has risen since the account was last given its rewards.
use Rattle.std.specs.Prelude.{ℕ, ◌-◌, ◌*◌, ◌/◌, min, Bool, true, false, ◌||◌, nat_le, if◌then◌else◌}
use Rattle.al_base.specs.declared.account.Status.{Status}
use Rattle.al_base.specs.declared.account.Status.TheVariants.{Offline, Online, NotParticipating}
use Rattle.al_rewards.specs.declared.share.Share.{Share}
use Rattle.al_rows.specs.Limits.{max_balance}

-- a unit, in microAlgos: one Algo
abbrev pub reward_unit : ℕ
reward_unit = 1000000

-- an account that does not participate earns nothing
abbrev pub is_apart : Status → Bool
is_apart Offline = false
is_apart Online = false
is_apart NotParticipating = true

-- the rewards that were earned and not yet given
unfoldable pub pending : ℕ → Share → ℕ
pending level s = if is_apart s.status || nat_le level s.base then 0 else min max_balance (s.balance / reward_unit * (level - s.base))
