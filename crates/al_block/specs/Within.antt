-- What a decoded block holds is in its ranges.
use Rattle.std.specs.Prelude.{ℕ, ◌+◌, ◌≤◌, ◌^◌, All, List, length, sum_by}
use Rattle.al_bodies.specs.Effect.{inner_in}
use Rattle.al_bodies.specs.Ranges.{EffectInRange}
use Rattle.al_block.specs.declared.block.Block.{Block}
use Rattle.al_block.specs.Block.{IsBlock}

-- effects are in their ranges, the transactions, inner ones included, are at most so many, and the round and the counter are at most 2^62
pub record IsWithin (size : ℕ) (b : Block) : Type 0 where
  pub effects : All (λ i. All EffectInRange i.effects) b.items
  pub transactions : sum_by (λ i. 1 + sum_by inner_in i.effects) b.items ≤ size
  pub counter : b.header.counter ≤ 2 ^ 62
  pub round : b.header.round ≤ 2 ^ 62

-- a block has at most as many transactions as its spelling has bytes
abbrev pub DecodedIsWithin : Type 0
DecodedIsWithin = (bytes : List ℕ) (b : Block) → IsBlock bytes b → IsWithin (length bytes) b
