-- The chain that the generator of a number makes: what its blocks hold depends on the draws alone, and each has the header that is due.
use Rattle.std.specs.Prelude.{ℕ, zero, suc, List, [], ◌∷◌, ◌++◌, Result, Ok, Err}
use Rattle.al_block.specs.declared.block.Block.{Block}
use Rattle.al_eval.specs.Start.{start}
use Rattle.al_eval.specs.State.{State, replay}
use Rattle.al_eval.specs.Steps.{Refusal}
use Rattle.al_generator.specs.Draws.{begin}
use Rattle.al_generator.specs.Genesis.{generated_genesis}
use Rattle.al_generator.specs.Items.{items_of}
use Rattle.al_generator.specs.Turns.{block}
use Rattle.al_generator.specs.declared.progress.Progress.{Progress}
use Rattle.al_states.specs.Due.{due_block}
use Rattle.al_txn.specs.declared.txn.Item.{Item}

-- how far the generator of a number is after so many blocks
unfoldable pub progress_after : ℕ → ℕ → Progress
progress_after number zero = begin number
progress_after number (suc n) = (block (progress_after number n)).1

-- the transactions of the block behind the first n
abbrev pub items_behind : ℕ → ℕ → List Item
items_behind number n = items_of (suc n) generated_genesis.chain.hash (block (progress_after number n)).0

-- the state that the chain begins with
abbrev pub origin : State
origin = start generated_genesis

-- the block behind the first n, whose time is 0, over the state after them; none where one of them was refused
abbrev pub next_block : ℕ → ℕ → Result State Refusal → List Block
next_block number n (Ok s) = due_block s 0 (items_behind number n) ∷ []
next_block number n (Err r) = []

-- the first n blocks of the chain
unfoldable pub generated_blocks : ℕ → ℕ → List Block
generated_blocks number zero = []
generated_blocks number (suc n) = generated_blocks number n ++ next_block number n (replay origin (generated_blocks number n))
