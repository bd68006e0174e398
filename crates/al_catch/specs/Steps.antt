-- What the parts of writing a catchpoint do.
use Rattle.std.specs.Prelude.{◌≡◌, ℕ, ◌≤◌, ◌<◌, ◌-◌, List, length, map, get_or, ⊤, Option, Some, None, Result, Ok, Err}
use Rattle.std.specs.FinMap.{FinMap}
use Rattle.al_base.specs.Causes.{Rose}
use Rattle.al_base.specs.Folders.{FileMap}
use Rattle.al_base.specs.Keys.{key_cmp}
use Rattle.al_base.specs.declared.key.Key.{Key}
use Rattle.al_rows.specs.declared.stored.Keyed.{Keyed}
use Rattle.al_rows.specs.declared.stored.Stored.{Stored}
use Rattle.al_catch.specs.Catching.{Counts, chunk_bytes, chunk_row}
use Rattle.al_catch.specs.Files.{name_of}
use Rattle.al_block.specs.declared.decoding.BlockFault.{BlockFault}
use Rattle.al_block.specs.declared.decoding.BlockFault.TheVariants as blocks
use Rattle.al_catch.specs.declared.chunk.Chunk.{Chunk}
use Rattle.al_catch.specs.declared.chunk.ChunkRow.{ChunkRow}
use Rattle.al_catch.specs.declared.files.CatchFile.TheVariants as file
use Rattle.al_catch.specs.declared.rows_at.RowsFault.{RowsFault}
use Rattle.al_catch.specs.declared.rows_at.RowsFault.TheVariants as faults
use Rattle.al_catch.specs.declared.writing.CatchRefusal.{CatchRefusal}
use Rattle.al_catch.specs.declared.writing.CatchRefusal.TheVariants as refusals

-- ---- refusals

-- what is refused where rows are not given
abbrev pub refusal_of : {F : Type 0} → RowsFault F → CatchRefusal F
refusal_of (faults.Overtaken round) = refusals.Overtaken round
refusal_of (faults.Failed f) = refusals.Rows f
refusal_of faults.Memory = refusals.Memory

-- why a file is not saved: the folder or memory
abbrev pub SaveCause : {A F : Type 0} → ℕ → ℕ → Result A (CatchRefusal F) → Type 0
SaveCause before now (Ok a) = ⊤
SaveCause before now (Err (refusals.Overtaken at)) = ⊥
SaveCause before now (Err (refusals.NotCatchpointRound named)) = ⊥
SaveCause before now (Err (refusals.FolderFault f)) = Rose before now
SaveCause before now (Err (refusals.Rows f)) = ⊥
SaveCause before now (Err refusals.Memory) = ⊤

-- why the files of rows are not written
abbrev pub PartCause : {A F : Type 0} → Counts → Counts → Result A (CatchRefusal F) → Type 0
PartCause before now (Ok a) = ⊤
PartCause before now (Err (refusals.Overtaken at)) = Rose before.overtaken now.overtaken
PartCause before now (Err (refusals.NotCatchpointRound named)) = ⊥
PartCause before now (Err (refusals.FolderFault f)) = Rose before.folder now.folder
PartCause before now (Err (refusals.Rows f)) = Rose before.failed now.failed
PartCause before now (Err refusals.Memory) = ⊤

-- ---- chunks

-- what a file holds of a row
abbrev pub row_of : Keyed → ChunkRow
row_of r = chunk_row (r.key, r.stored)

-- the chunk of this number that holds these rows
abbrev pub chunk_of : ℕ → List Keyed → Chunk
chunk_of number rows = record { number = number; rows = map row_of rows }

-- the key of the last row, or there is no row
abbrev pub EndsAt : List Keyed → Option Key → Type 0
EndsAt rows None = length rows ≡ 0
EndsAt rows (Some key) = (0 < length rows) × (key ≡ get_or (map (λ r. r.key) rows) (length rows - 1) key)

-- the first chunks of the rows stand in their files
abbrev pub HoldsFirst : ℕ → FinMap key_cmp Stored → ℕ → FileMap → Type 0
HoldsFirst round rows count files = (k : ℕ) → k < count → files (name_of round (file.Rows k)) ≡ Some (chunk_bytes rows k)

-- ---- the tip

-- a block that is not read for another reason than want of memory
abbrev pub IsNoMemory : BlockFault → Type 0
IsNoMemory blocks.Memory = ⊥
IsNoMemory f = ⊤

-- the name of a block's file, up to the round
abbrev pub IsBlockName : ℕ → List ℕ → Type 0
IsBlockName round name = (n : ℕ) × (n ≤ round) × (name ≡ name_of round (file.Block n))

-- the blocks from one on stand in their files, before another
abbrev pub HoldsUpTo : ℕ → ℕ → (ℕ → List ℕ) → ℕ → FileMap → Type 0
HoldsUpTo round first block end files = (n : ℕ) → first ≤ n → n < end → files (name_of round (file.Block n)) ≡ Some (block n)
