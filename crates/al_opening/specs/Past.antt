-- The past that kept blocks tell.
use Rattle.std.specs.Prelude.{◌≡◌, ℕ, suc, ◌+◌, ◌≤◌, ◌<◌, ◌^◌, List, [], ◌∷◌, ◌++◌, map, length, ⊤}
use Rattle.std.specs.declared.option.Option.{Option}
use Rattle.std.specs.declared.option.Option.TheVariants.{None, Some}
use Rattle.std.specs.declared.result.Result.{Result}
use Rattle.std.specs.declared.result.Result.TheVariants.{Ok, Err}
use Rattle.al_block.specs.declared.block.Block.{Block}
use Rattle.al_block.specs.declared.header.Header.{Header}
use Rattle.al_block.specs.declared.decoding.BlockFault.{BlockFault}
use Rattle.al_block.specs.declared.decoding.BlockFault.TheVariants as faults
use Rattle.al_block.specs.Block.{IsBlock}
use Rattle.al_keeper.specs.Blocks.{Blocks, block_at}
use Rattle.al_txn.specs.declared.txn.Txn.{Txn}
use Rattle.al_tail.specs.Past.{entry_of}
use Rattle.al_opening.specs.declared.past.Past.{Past}
use Rattle.al_opening.specs.declared.refusal.StartRefusal.{StartRefusal}
use Rattle.al_opening.specs.declared.refusal.StartRefusal.TheVariants as refusals

-- some bytes, fewer than 2^31, spell the block
pub record IsSpelled (b : Block) : Type 0 where
  pub bytes : List ℕ
  pub short : length bytes < 2 ^ 31
  pub spells : IsBlock bytes b

-- a block of the round that some bytes spell
abbrev pub IsBlockOf : ℕ → Block → Type 0
IsBlockOf round b = (b.header.round ≡ round) × IsSpelled b

-- the header of a block of the round that some bytes spell
pub record IsHeaderOf (round : ℕ) (h : Header) : Type 0 where
  pub block : Block
  pub header : h ≡ block.header
  pub at : block.header.round ≡ round
  pub spelled : IsSpelled block

-- the kept bytes of a round spell the block, whichever round it has
pub record SpellsAt (kept : Blocks) (round : ℕ) (b : Block) : Type 0 where
  pub bytes : List ℕ
  pub at : block_at kept round ≡ Some bytes
  pub spells : IsBlock bytes b

-- the kept bytes of a round spell no block
pub record SpellsNone (kept : Blocks) (round : ℕ) : Type 0 where
  pub bytes : List ℕ
  pub at : block_at kept round ≡ Some bytes
  pub none : (b : Block) → IsBlock bytes b → ⊥

-- the kept bytes of a round spell no block of that round
pub record IsBad (kept : Blocks) (round : ℕ) : Type 0 where
  pub bytes : List ℕ
  pub at : block_at kept round ≡ Some bytes
  pub none : (b : Block) → IsBlock bytes b → b.header.round ≡ round → ⊥

-- the refusal of the bytes of a round that are no block
abbrev pub refusal_of : {F G : Type 0} → ℕ → BlockFault → StartRefusal F G
refusal_of round (faults.Decode f) = refusals.BadBlock round
refusal_of round (faults.Field name) = refusals.BadBlock round
refusal_of round (faults.Range name) = refusals.BadBlock round
refusal_of round faults.Memory = refusals.Memory

-- what holds of a result: one thing of what it gives, one of a bad round, one of another genesis hash; want of memory and a fault of the blocks mean nothing, and there is no other refusal
abbrev pub Answers : {A F G : Type 0} → (A → Type 0) → (ℕ → Type 0) → (List ℕ → Type 0) → Result A (StartRefusal F G) → Type 0
Answers ok bad other (Ok x) = ok x
Answers ok bad other (Err (refusals.BadBlock r)) = bad r
Answers ok bad other (Err (refusals.OtherGenesis h)) = other h
Answers ok bad other (Err (refusals.Blocks f)) = ⊤
Answers ok bad other (Err refusals.Memory) = ⊤
Answers ok bad other (Err (refusals.Tables f)) = ⊥
Answers ok bad other (Err (refusals.Gap tables first last)) = ⊥
Answers ok bad other (Err (refusals.Total counted)) = ⊥

-- what the bytes of a round spell
abbrev pub Spells : {F G : Type 0} → List ℕ → ℕ → Result Block (StartRefusal F G) → Type 0
Spells bytes round (Ok b) = IsBlock bytes b
Spells bytes round (Err (refusals.BadBlock r)) = (r ≡ round) × ((b : Block) → IsBlock bytes b → ⊥)
Spells bytes round (Err refusals.Memory) = ⊤
Spells bytes round (Err (refusals.OtherGenesis h)) = ⊥
Spells bytes round (Err (refusals.Blocks f)) = ⊥
Spells bytes round (Err (refusals.Tables f)) = ⊥
Spells bytes round (Err (refusals.Gap tables first last)) = ⊥
Spells bytes round (Err (refusals.Total counted)) = ⊥

-- what the kept bytes of a round spell, whichever round it has
abbrev pub DecodesKept : {F G : Type 0} → Blocks → ℕ → Result Block (StartRefusal F G) → Type 0
DecodesKept kept round = Answers (SpellsAt kept round) (λ r. (r ≡ round) × SpellsNone kept round) (λ h. ⊥)

-- the kept block of a round
abbrev pub ReadsBlock : {F G : Type 0} → Blocks → ℕ → Result Block (StartRefusal F G) → Type 0
ReadsBlock kept round = Answers (λ b. SpellsAt kept round b × (b.header.round ≡ round)) (λ r. (r ≡ round) × IsBad kept round) (λ h. ⊥)

-- the kept bytes of a round spell a block with this genesis hash, which is not the given one
pub record IsOther (hash : List ℕ) (kept : Blocks) (round : ℕ) (other : List ℕ) : Type 0 where
  pub block : Block
  pub spells : SpellsAt kept round block
  pub has : block.header.genesis_hash ≡ other
  pub differs : other ≡ hash → ⊥

-- a block that the kept bytes of a round spell has the genesis hash
abbrev pub IsOfChain : List ℕ → Blocks → ℕ → Type 0
IsOfChain hash kept round = (b : Block) → SpellsAt kept round b → b.header.genesis_hash ≡ hash

-- the kept block of the first round that is read
abbrev pub ReadsFirst : {F G : Type 0} → List ℕ → Blocks → ℕ → Result Block (StartRefusal F G) → Type 0
ReadsFirst hash kept round = Answers (λ b. SpellsAt kept round b × (b.header.round ≡ round) × (b.header.genesis_hash ≡ hash)) (λ r. (r ≡ round) × IsBad kept round × IsOfChain hash kept round) (IsOther hash kept round)

-- the kept bytes from a round on spell these blocks, each of its round
abbrev pub ReadsTo : Blocks → ℕ → List Block → Type 0
ReadsTo kept from [] = ⊤
ReadsTo kept from (b ∷ bs) = SpellsAt kept from b × (b.header.round ≡ from) × ReadsTo kept (suc from) bs

-- the transactions of blocks, in order
abbrev pub txns_of : List Block → List Txn
txns_of [] = []
txns_of (b ∷ bs) = map (λ i. i.txn) b.items ++ txns_of bs

-- the header of the last of blocks
abbrev pub last_header : List Block → Option Header
last_header [] = None
last_header (b ∷ []) = Some b.header
last_header (b ∷ c ∷ bs) = last_header (c ∷ bs)

-- the first of blocks has the genesis hash
abbrev pub StartsChain : List ℕ → List Block → Type 0
StartsChain hash [] = ⊥
StartsChain hash (b ∷ bs) = b.header.genesis_hash ≡ hash

-- the past of one block, and with one more
abbrev pub past_of : Block → Past
past_of b = record { tail = map (λ i. entry_of i.txn) b.items; header = b.header }

abbrev pub and_block : Block → Past → Past
and_block b p = record { tail = p.tail ++ map (λ i. entry_of i.txn) b.items; header = b.header }

-- the past with the kept block of a round
abbrev pub AddsBlock : {F G : Type 0} → Blocks → ℕ → Past → Past → Result (Unit {0}) (StartRefusal F G) → Type 0
AddsBlock kept round old new = Answers (λ _. (b : Block) × SpellsAt kept round b × (b.header.round ≡ round) × (new ≡ and_block b old)) (λ r. (r ≡ round) × IsBad kept round) (λ h. ⊥)

-- the past of these blocks, which the kept bytes spell from one round to another, the first of them with the genesis hash
pub record IsPast (hash : List ℕ) (kept : Blocks) (from to : ℕ) (p : Past) : Type 0 where
  pub blocks : List Block
  pub reads : ReadsTo kept from blocks
  pub count : from + length blocks ≡ suc to
  pub tail : p.tail ≡ map entry_of (txns_of blocks)
  pub header : last_header blocks ≡ Some p.header
  pub chain : StartsChain hash blocks

-- the first round from one on, and up to another, whose kept bytes spell no block of it; no block at the first has another genesis hash
pub record IsFirstBad (hash : List ℕ) (kept : Blocks) (from to round : ℕ) : Type 0 where
  pub blocks : List Block
  pub reads : ReadsTo kept from blocks
  pub at : round ≡ from + length blocks
  pub most : round ≤ to
  pub bad : IsBad kept round
  pub chain : IsOfChain hash kept from

-- the past that the kept blocks tell from one round to another
abbrev pub ReadsPast : {F G : Type 0} → List ℕ → Blocks → ℕ → ℕ → Result Past (StartRefusal F G) → Type 0
ReadsPast hash kept from to = Answers (IsPast hash kept from to) (IsFirstBad hash kept from to) (IsOther hash kept from)
