-- The header of a block, against what is due after the block before.
use Rattle.std.specs.Prelude.{ℕ, ◌+◌, List, [], ◌∷◌, Bool, nat_eq, nat_le, ◌&&◌, ◌||◌, if◌then◌else◌}
use Rattle.std.specs.declared.option.Option.{Option}
use Rattle.std.specs.declared.option.Option.TheVariants.{None, Some}
use Rattle.std.specs.declared.result.Result.{Result}
use Rattle.std.specs.declared.result.Result.TheVariants.{Ok, Err}
use Rattle.al_block.specs.declared.header.Header.{Header}
use Rattle.al_block.specs.declared.header.Field.{Field}
use Rattle.al_block.specs.declared.header.Field.TheVariants as field
use Rattle.al_block.specs.declared.block.Block.{Block}
use Rattle.al_block.specs.Hashes.{payset_hash_of}
use Rattle.al_rewards.specs.declared.state.RewardsState.{RewardsState}
use Rattle.al_rows.specs.Rows.{RowMap, same_bytes}
use Rattle.al_overlay.specs.Accounts.{same_address}
use Rattle.al_eval.specs.declared.before.Before.{Before}
use Rattle.al_eval.specs.Refusals.{Refusal, header}

-- the first field that differs from what is due
abbrev pub first_fault : List (Bool × Field) → Option Field
first_fault [] = None
first_fault (c ∷ cs) = if c.0 then first_fault cs else Some c.1

-- a time lies from the one before to that plus 25 seconds; where that is 0 it may be any
abbrev pub is_in_time : ℕ → ℕ → Bool
is_in_time last ts = nat_eq last 0 || nat_le last ts && nat_le ts (last + 25)

-- what is due of a header beside its rewards, in the order of the tests
unfoldable pub header_checks : Before → Header → List (Bool × Field)
header_checks s h =
    (nat_eq h.round (s.header.round + 1), field.Rnd)
    ∷ (same_bytes h.prev s.hash, field.Prev)
    ∷ (same_bytes h.genesis_hash s.chain.hash, field.Gh)
    ∷ (is_in_time s.header.ts h.ts, field.Ts)
    ∷ (same_address h.sink s.chain.special.sink, field.Fees)
    ∷ (same_address h.pool s.chain.special.pool, field.Rwd)
    ∷ []

-- what is due of the rewards, in the order of the tests
unfoldable pub rewards_checks : RewardsState → Header → List (Bool × Field)
rewards_checks due h =
    (nat_eq h.rate due.rate, field.Rate)
    ∷ (nat_eq h.recalc due.recalc, field.Rwcalr)
    ∷ (nat_eq h.residue due.residue, field.Frac)
    ∷ (nat_eq h.level due.level, field.Earn)
    ∷ []

-- the digest of the payset
abbrev pub payset_fault : Block → Option Field
payset_fault b = if same_bytes b.header.payset (payset_hash_of b.items) then None else Some field.Txn

-- the count of all transactions so far, inner ones included
abbrev pub counter_fault : Header → ℕ → Option Field
counter_fault h counter = if nat_eq h.counter counter then None else Some field.Tc

abbrev pub unless_fault : Option Field → RowMap → Result RowMap Refusal
unless_fault None m = Ok m
unless_fault (Some f) m = Err (header f)
