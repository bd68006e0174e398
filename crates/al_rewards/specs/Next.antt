-- The rewards of the next block by the Algorand ledger specification, section on rewards: the pool gives a rate each round to all units together, and what does not divide by them is left over for the next round.
use Rattle.std.specs.Prelude.{ℕ, ◌+◌, ◌-◌, ◌/◌, ◌%◌, ◌^◌, Bool, not, ◌&&◌, nat_eq, nat_lt, Option, Some, None, if◌then◌else◌}
use Rattle.al_rewards.specs.declared.state.RewardsState.{RewardsState}

-- the microAlgos that the pool keeps
abbrev pub least_pool : ℕ
least_pool = 100000

-- a rate stays for an interval of rounds; then it is what the pool can give, spread over the next interval
abbrev pub rate_due : RewardsState → ℕ → ℕ → ℕ → ℕ
rate_due s round interval pool = if nat_eq round s.recalc then (pool - least_pool - s.residue) / interval else s.rate

abbrev pub recalc_due : RewardsState → ℕ → ℕ → ℕ
recalc_due s round interval = if nat_eq round s.recalc then round + interval else s.recalc

-- what is there to be given: a rate, and what is left over
abbrev pub fund : RewardsState → ℕ → ℕ → ℕ → ℕ
fund s round interval pool = rate_due s round interval pool + s.residue

-- it is given where there are units, and neither sum passes a number of 64 bits
abbrev pub gives : ℕ → ℕ → ℕ → Bool
gives level fund units = not (nat_eq units 0) && (nat_lt fund (2 ^ 64) && nat_lt (level + fund / units) (2 ^ 64))

-- the level and what is left over where it is given
abbrev pub given : ℕ → ℕ → ℕ → Option (ℕ × ℕ)
given level fund units = if gives level fund units then Some (level + fund / units, fund % units) else None

-- the rewards of a round, by the pool's balance and all units before it
unfoldable pub next_rewards : RewardsState → ℕ → ℕ → ℕ → ℕ → RewardsState
next_rewards s round interval pool units =
    let all = fund s round interval pool in
    record {
      level = if gives s.level all units then s.level + all / units else s.level;
      rate = rate_due s round interval pool;
      residue = if gives s.level all units then all % units else s.residue;
      recalc = recalc_due s round interval;
    }
