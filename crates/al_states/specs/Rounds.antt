-- What is asked of the state after a round, beside its rows: creators, money, what consensus may ask, and the hash of its last block.
use Rattle.std.specs.Prelude.{ℕ, List, take, option_map}
use Rattle.std.specs.declared.option.Option.{Option}
use Rattle.std.specs.declared.option.Option.TheVariants.{None, Some}
use Rattle.std.specs.declared.result.Result.{Result}
use Rattle.std.specs.declared.result.Result.TheVariants.{Ok, Err}
use Rattle.std.specs.FinMap.{get}
use Rattle.al_base.specs.declared.address.Address.{Address}
use Rattle.al_block.specs.declared.block.Block.{Block}
use Rattle.al_block.specs.Hashes.{header_hash_of}
use Rattle.al_eval.specs.State.{State, counts_in, replay}
use Rattle.al_eval.specs.Steps.{Refusal}
use Rattle.al_online.specs.Memory.{capped_stake}
use Rattle.al_online.specs.Stakes.{Snap, circulation_at, stake_at}
use Rattle.al_online.specs.declared.stake.Stake.{Stake}
use Rattle.al_rewards.specs.Totals.{capped}
use Rattle.al_rewards.specs.declared.totals.Totals.{Totals}
use Rattle.al_rows.specs.Rows.{bare, creator_of}

-- how many rounds behind the front consensus may still ask for
abbrev pub lookback : ℕ
lookback = 320

-- something of the state that blocks lead to, where they do
abbrev pub of_state : {A : Type 0} → (State → Option A) → Result State Refusal → Option A
of_state f (Ok s) = f s
of_state f (Err r) = None

-- something of the state after the first blocks
abbrev pub of_round : {A : Type 0} → (State → Option A) → State → List Block → ℕ → Option A
of_round f o blocks round = of_state f (replay o (take round blocks))

-- the creator of an asset or an application after a round
abbrev pub creator_after : State → List Block → ℕ → ℕ → Option Address
creator_after o blocks round id = of_round (λ s. creator_of (bare s.rows) id) o blocks round

-- the money and the units of all accounts after a round
abbrev pub totals_after : State → List Block → ℕ → Option Totals
totals_after o blocks round = of_round (λ s. Some (counts_in s)) o blocks round

-- what the state after all blocks keeps of a round for consensus
abbrev pub snap_after : State → List Block → ℕ → Option Snap
snap_after o blocks round = of_state (λ s. get s.snaps round) (replay o blocks)

-- the stake of an account, where it was online
abbrev pub stake_in_snap : Address → Option Snap → Option Stake
stake_in_snap who None = None
stake_in_snap who (Some snap) = option_map capped_stake (stake_at snap who)

-- the stake of an account that was online after a round, in 64 bits
abbrev pub stake_after : State → List Block → ℕ → Address → Option Stake
stake_after o blocks round who = stake_in_snap who (snap_after o blocks round)

-- the stake after a round that may take part in the vote of another, in 64 bits
abbrev pub circulation_after : State → List Block → ℕ → ℕ → Option ℕ
circulation_after o blocks round vote = option_map (λ snap. capped (circulation_at snap vote)) (snap_after o blocks round)

-- the hash of the last block's header, or of the origin's where there is no block
abbrev pub hash_after : State → List Block → Option (List ℕ)
hash_after o blocks = of_state (λ s. Some (header_hash_of s.header)) (replay o blocks)
