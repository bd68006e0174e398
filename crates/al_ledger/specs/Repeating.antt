-- What comes of a block whose round is at most the front, by the bytes that are kept.
use Rattle.std.specs.Prelude.{◌≡◌, ◌≢◌, ℕ, suc, List, ⊤}
use Rattle.std.specs.declared.option.Option.{Option}
use Rattle.std.specs.declared.option.Option.TheVariants.{None, Some}
use Rattle.std.specs.declared.result.Result.{Result}
use Rattle.std.specs.declared.result.Result.TheVariants.{Ok, Err}
use Rattle.al_block.specs.declared.block.Block.{Block}
use Rattle.al_block.specs.Block.{IsBlock}
use Rattle.al_block.specs.declared.decoding.BlockFault.{BlockFault}
use Rattle.al_block.specs.declared.decoding.BlockFault.TheVariants as faults
use Rattle.al_block.specs.Hashes.{header_hash_of}
use Rattle.al_keeper.specs.Blocks.{Blocks, block_at}
use Rattle.al_ledger.specs.declared.accepting.Accepted.{Accepted}
use Rattle.al_ledger.specs.declared.accepting.AcceptRefusal.{AcceptRefusal}
use Rattle.al_ledger.specs.declared.accepting.AcceptRefusal.TheVariants as refusals

-- the bytes spell a block of this round
abbrev pub SpellsAt : List ℕ → ℕ → Block → Type 0
SpellsAt kept round b = IsBlock kept b × (b.header.round ≡ round)

-- the fault is one of the bytes, and no want of memory
abbrev pub IsOfForm : BlockFault → Type 0
IsOfForm faults.Memory = ⊥
IsOfForm f = ⊤

-- the bytes spell this block, or none
abbrev pub IsReadAs : List ℕ → Option Block → Type 0
IsReadAs bytes None = (b : Block) → IsBlock bytes b → ⊥
IsReadAs bytes (Some b) = IsBlock bytes b

-- the hash of a block that is kept; want of memory is free
abbrev pub ForkedBy : {F G : Type 0} → Block → ℕ → AcceptRefusal F G → Type 0
ForkedBy kept front (refusals.Fork hash n) = (n ≡ front) × (hash ≡ header_hash_of kept.header)
ForkedBy kept front refusals.Memory = ⊤
ForkedBy kept front r = ⊥

-- other bytes are kept of the round: the hash of the block that they spell; kept bytes that are no block of their round count as no kept block
abbrev pub Forks : {F G : Type 0} → List ℕ → ℕ → ℕ → AcceptRefusal F G → Type 0
Forks kept front round (refusals.Fork hash n) = (n ≡ front) × ((b : Block) × SpellsAt kept round b × (hash ≡ header_hash_of b.header))
Forks kept front round (refusals.WrongRound next n) = (n ≡ front) × (next ≡ suc front) × ((b : Block) → SpellsAt kept round b → ⊥)
Forks kept front round refusals.Memory = ⊤
Forks kept front round r = ⊥

-- the bytes that are kept of the round, and those that are posted
abbrev pub ComparesWith : {F G : Type 0} → Option (List ℕ) → ℕ → ℕ → List ℕ → Result Accepted (AcceptRefusal F G) → Type 0
ComparesWith None front round bytes (Ok a) = ⊥
ComparesWith None front round bytes (Err (refusals.WrongRound next n)) = (n ≡ front) × (next ≡ suc front)
ComparesWith None front round bytes (Err (refusals.Blocks fault n)) = n ≡ front
ComparesWith None front round bytes (Err refusals.Memory) = ⊤
ComparesWith None front round bytes (Err r) = ⊥
ComparesWith (Some kept) front round bytes (Ok a) = (kept ≡ bytes) × (a ≡ record { front = front; round = round })
ComparesWith (Some kept) front round bytes (Err (refusals.Blocks fault n)) = n ≡ front
ComparesWith (Some kept) front round bytes (Err refusals.Memory) = ⊤
ComparesWith (Some kept) front round bytes (Err r) = (kept ≢ bytes) × Forks kept front round r

abbrev pub Compares : {F G : Type 0} → Blocks → ℕ → ℕ → List ℕ → Result Accepted (AcceptRefusal F G) → Type 0
Compares blocks front round bytes r = ComparesWith (block_at blocks round) front round bytes r
