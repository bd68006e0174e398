-- The spellings of the blocks that are held.
use Rattle.std.specs.Prelude.{ℕ, zero, suc, List, [], slice_get}
use Rattle.std.specs.declared.option.Option.{Option}
use Rattle.std.specs.declared.option.Option.TheVariants.{None, Some}
use Rattle.al_block.specs.Block.{block}
use Rattle.al_block.specs.declared.block.Block.{Block}
use Rattle.al_msgpack.specs.Spelled.{spelled}
use Rattle.al_msgpack.specs.declared.val.Val.TheVariants as values

-- the spelling of a block
abbrev pub block_string : Block → List ℕ
block_string b = spelled (values.Map (block.write b))

-- no bytes where there is no block
abbrev pub string_of : Option Block → List ℕ
string_of None = []
string_of (Some b) = block_string b

-- the spelling of the block of a round, from 1 on; no bytes where there is none
abbrev pub spelling_at : List Block → ℕ → List ℕ
spelling_at blocks zero = []
spelling_at blocks (suc n) = string_of (slice_get blocks n)
