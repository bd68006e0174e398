-- Blocks, and what an input is that should be one.
use Rattle.std.specs.Prelude.{◌≡◌, nat_le, ℕ, map, codes, length, List, [], ◌∷◌, Option, Some, None, Result, Ok, Err}
use Rattle.al_msgpack.specs.declared.val.Val.{Val, out-Val}
use Rattle.al_msgpack.specs.declared.val.Val.TheVariants as values
use Rattle.al_msgpack.specs.Places.{IsSpelling, Means}
use Rattle.al_record.specs.declared.fault.Fault.{Fault}
use Rattle.al_record.specs.declared.fault.Fault.TheVariants.{Field, Range}
use Rattle.al_record.specs.declared.fault.ReadError.{ReadError}
use Rattle.al_record.specs.Columns.{FieldOf, Fails, Format, list_put, record_field, records_field, table, member_open, first_of, unless_range}
use Rattle.al_txn.specs.declared.txn.Item.{Item}
use Rattle.al_txn.specs.Item.{item}
use Rattle.al_block.specs.declared.block.Block.{Block}
use Rattle.al_block.specs.declared.decoding.BlockFault.{BlockFault}
use Rattle.al_block.specs.declared.decoding.BlockFault.TheVariants as faults
use Rattle.al_block.specs.Header.{header}

abbrev pub block_fields : List (FieldOf Block)
block_fields =
    record_field (codes "b") header (λ b. b.header) ∷
    records_field (codes "t") None item (λ b. b.items) ∷
    []

abbrev pub block : Format Block
block = table block_fields

-- the list of the entries' records, unless there is none
abbrev pub items_put : List Item → Option Val
items_put items = list_put (map (λ es. values.Map es) (map item.write items))

-- the most bytes of a block's spelling
abbrev pub most_bytes : ℕ
most_bytes = 5242880

-- The first fault of a value that should be a block, and is spelled in so many bytes: the record's own, and then its length.
abbrev pub block_fault : ℕ → Val → Option Fault
block_fault size v = first_of (member_open block.fault (out-Val v)) (unless_range (nat_le size most_bytes) (codes "t"))

-- the answer for a value that is spelled in so many bytes, unless memory ran out
abbrev pub ReadsSized : ℕ → Val → Result Block ReadError → Type 0
ReadsSized size v (Ok b) = (values.Map (block.write b) ≡ v) × (block_fault size v ≡ None)
ReadsSized size v (Err e) = Fails e (block_fault size v)

-- the input spells the record of the block
pub record IsBlock (input : List ℕ) (b : Block) : Type 0 where
  pub spells : IsSpelling (values.Map (block.write b)) input
  pub sound : block_fault (length input) (values.Map (block.write b)) ≡ None

-- the input spells a value whose first fault this is
pub record IsFaulty (input : List ℕ) (f : Fault) : Type 0 where
  pub value : Val
  pub spells : IsSpelling value input
  pub fault : block_fault (length input) value ≡ Some f

-- What each answer means. Want of memory means nothing.
abbrev pub BlockMeans : List ℕ → Result Block BlockFault → Type 0
BlockMeans input (Ok b) = IsBlock input b
BlockMeans input (Err (faults.Decode f)) = Means input (Err f)
BlockMeans input (Err (faults.Field name)) = IsFaulty input (Field name)
BlockMeans input (Err (faults.Range name)) = IsFaulty input (Range name)
BlockMeans input (Err faults.Memory) = ⊥

-- the answer is right, unless memory ran out
abbrev pub BlockMeansUnless : List ℕ → Result Block BlockFault → Type 0
BlockMeansUnless input (Ok b) = IsBlock input b
BlockMeansUnless input (Err (faults.Decode f)) = Means input (Err f)
BlockMeansUnless input (Err (faults.Field name)) = IsFaulty input (Field name)
BlockMeansUnless input (Err (faults.Range name)) = IsFaulty input (Range name)
BlockMeansUnless input (Err faults.Memory) = Unit {0}

-- what is right is answered, unless memory ran out
abbrev pub BlockAnswers : Result Block BlockFault → Result Block BlockFault → Type 0
BlockAnswers (Err faults.Memory) r = Unit {0}
BlockAnswers (Ok b) r = r ≡ Ok b
BlockAnswers (Err (faults.Decode f)) r = r ≡ Err (faults.Decode f)
BlockAnswers (Err (faults.Field name)) r = r ≡ Err (faults.Field name)
BlockAnswers (Err (faults.Range name)) r = r ≡ Err (faults.Range name)

-- bytes spell at most one block
abbrev pub SpellsOneBlock : Type 0
SpellsOneBlock = (input : List ℕ) (a b : Block) → IsBlock input a → IsBlock input b → a ≡ b
