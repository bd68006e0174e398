-- A block that bytes spell.
use Rattle.std.proofs.Common.{ℕ, ◌≤◌, ◌<◌, ◌^◌, All, IfOk, List, length, Result, Ok, Err, sum_by, arith}
use Rattle.al_bodies.specs.Ranges.{EffectInRange}
use Rattle.al_block.specs.declared.block.Block.{Block}
use Rattle.al_block.specs.declared.decoding.BlockFault.{BlockFault}
use Rattle.al_block.specs.Block.{BlockMeansUnless}
use Rattle.al_block.proofs.Within.{is_within}
use Rattle.al_eval.specs.Groups.{size_of}

-- its effects are in their ranges
pub effects_within : (bytes : List ℕ) (r : Result Block BlockFault) → BlockMeansUnless bytes r → IfOk r (λ b. All (λ i. All EffectInRange i.effects) b.items)
effects_within bytes (Ok b) is = (is_within bytes b is).effects
effects_within bytes (Err f) is = tt

-- it has at most as many transactions as bytes
pub few_within : (bytes : List ℕ) (r : Result Block BlockFault) → BlockMeansUnless bytes r → length bytes < 2 ^ 31 → IfOk r (λ b. sum_by size_of b.items ≤ 2 ^ 31)
few_within bytes (Ok b) is short =
    let few : sum_by size_of b.items ≤ length bytes = (is_within bytes b is).transactions in
    omega (arith, few, short)
few_within bytes (Err f) is short = tt
