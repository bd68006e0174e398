-- What a generator draws is in the ranges of its record.
use Rattle.std.specs.Prelude.{◌≡◌, ◌≤◌, ◌+◌, ◌^◌, ℕ, List, length, IfSome}
use Rattle.std.specs.List.{AllByRecursion}
use Rattle.al_bodies.specs.Ranges.{IsArray}
use Rattle.al_generator.specs.Draws.{begin}
use Rattle.al_generator.specs.Genesis.{generated_genesis}
use Rattle.al_generator.specs.Items.{items_of}
use Rattle.al_generator.specs.Turns.{block}
use Rattle.al_generator.specs.declared.progress.Progress.{Progress}
use Rattle.al_txn.specs.Ranges.{ItemRanges}

-- the asset and the application have numbers of transactions that there are
pub record IsWithin (g : Progress) : Type 0 where
  pub asset : IfSome g.asset (λ id. id ≤ g.count)
  pub app : IfSome g.app (λ id. id ≤ g.count)

-- the transactions of a block, of which there are at most eight
pub record BlockFits (round : ℕ) (genesis : List ℕ) (g : Progress) : Type 0 where
  pub items : AllByRecursion (ItemRanges 12) (items_of round genesis (block g).0)
  pub few : length (items_of round genesis (block g).0) ≤ 8
  pub counted : (block g).1.count ≡ g.count + length (items_of round genesis (block g).0)
  pub within : IsWithin (block g).1

-- each block's transactions are in the ranges of their records, from the first on
pub record DrawsFit : Type 0 where
  pub begun : (number : ℕ) → IsWithin (begin number)
  pub hash : IsArray 32 generated_genesis.chain.hash
  pub blocks : (round : ℕ) (genesis : List ℕ) (g : Progress) → round ≤ 2 ^ 62 → IsArray 32 genesis → g.count ≤ 2 ^ 62 → IsWithin g → BlockFits round genesis g
