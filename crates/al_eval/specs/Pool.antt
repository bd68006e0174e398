-- The rewards that are due in a block, and what the pool pays of them.
use Rattle.std.specs.Prelude.{ℕ, ◌+◌, ◌-◌, ◌*◌, nat_lt, if◌then◌else◌}
use Rattle.std.specs.declared.result.Result.{Result}
use Rattle.std.specs.declared.result.Result.TheVariants.{Ok, Err}
use Rattle.al_base.specs.declared.address.Address.{Address}
use Rattle.al_block.specs.declared.header.Header.{Header}
use Rattle.al_rewards.specs.declared.state.RewardsState.{RewardsState}
use Rattle.al_rewards.specs.Next.{least_pool, next_rewards}
use Rattle.al_rewards.specs.Totals.{all_units, capped}
use Rattle.al_rows.specs.Rows.{RowMap, account, set_account}
use Rattle.al_eval.specs.declared.before.Before.{Before}
use Rattle.al_eval.specs.Refusals.{Refusal, pool_short}

-- what a header says of rewards
abbrev pub rewards_of : Header → RewardsState
rewards_of h = record { level = h.level; rate = h.rate; residue = h.residue; recalc = h.recalc }

-- the units before a block, or the greatest number of 64 bits
abbrev pub units_before : Before → ℕ
units_before s = capped (all_units s.totals)

-- the rewards that are due in a round, by the units and the pool's balance before it
abbrev pub rewards_due : Before → ℕ → ℕ → RowMap → RewardsState
rewards_due s round units m = next_rewards (rewards_of s.header) round s.chain.interval (account m s.chain.special.pool).balance units

-- what all units earn, in microAlgos, by how much the level rises
abbrev pub owed_by : Before → ℕ → Header → ℕ
owed_by s units h = units * (h.level - s.header.level)

-- the pool pays what is owed, and keeps its least
unfoldable pub pool_paid : Address → ℕ → RowMap → Result RowMap Refusal
pool_paid pool owed m =
    if nat_lt (account m pool).balance (owed + least_pool) then Err (pool_short (account m pool).balance owed)
    else Ok (set_account m pool (record (account m pool) { balance = (account m pool).balance - owed }))
