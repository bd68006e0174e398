-- The files of a catchpoint of a round: the rows after the block 320 rounds before it, what the catchpoint says of itself, the blocks from 1,319 rounds before the round on, and the label.
use Rattle.std.specs.Prelude.{◌≡◌, ℕ, ◌+◌, ◌-◌, ◌*◌, ◌/◌, ◌%◌, ◌≤◌, ◌<◌, max, List, [], ◌∷◌, ◌++◌, length, map, take, drop, Bool, false, ◌&&◌, nat_lt, nat_eq, not, ⊤, Option, Some, None, Result, Ok, Err}
use Rattle.std.specs.FinMap.{FinMap, entries}
use Rattle.al_base.specs.Causes.{Rose}
use Rattle.al_base.specs.Folders.{FileMap}
use Rattle.al_base.specs.Keys.{key_bytes, key_cmp}
use Rattle.al_base.specs.declared.key.Key.{Key}
use Rattle.al_msgpack.specs.declared.val.Val.TheVariants as values
use Rattle.al_msgpack.specs.Spelled.{spelled}
use Rattle.al_rewards.specs.declared.totals.Totals.{Totals}
use Rattle.al_row_records.specs.Element.{element_of}
use Rattle.al_row_records.specs.RowRecords.{row_written}
use Rattle.al_rows.specs.declared.stored.Stored.{Stored}
use Rattle.al_trie.specs.Tries.{Elements, root, set_of}
use Rattle.al_catch.specs.declared.chunk.Chunk.{Chunk}
use Rattle.al_catch.specs.declared.chunk.ChunkRow.{ChunkRow}
use Rattle.al_catch.specs.declared.files.CatchFile.{CatchFile}
use Rattle.al_catch.specs.declared.files.CatchFile.TheVariants as file
use Rattle.al_catch.specs.declared.info.CatchInfo.{CatchInfo}
use Rattle.al_catch.specs.declared.label.Label.{Label}
use Rattle.al_catch.specs.declared.rows_at.RowsFault.{RowsFault}
use Rattle.al_catch.specs.declared.rows_at.RowsFault.TheVariants as faults
use Rattle.al_catch.specs.declared.writing.CatchRefusal.{CatchRefusal}
use Rattle.al_catch.specs.declared.writing.CatchRefusal.TheVariants as refusals
use Rattle.al_catch.specs.declared.writing.RowsWritten.{RowsWritten}
use Rattle.al_catch.specs.Files.{name_of}
use Rattle.al_catch.specs.Labels.{label_text_of}
use Rattle.al_catch.specs.Records.{chunk, info}

-- ---- rounds

-- how many rounds a catchpoint lies behind the rows that it holds
abbrev pub look_back : ℕ
look_back = 320

-- whether a round has a catchpoint: it is a multiple of the interval above 320; with interval 0 none has
abbrev pub is_catchpoint_round : ℕ → ℕ → Bool
is_catchpoint_round interval round = not (nat_eq interval 0) && (nat_lt look_back round && nat_eq (round % interval) 0)

-- the round whose rows a catchpoint holds
abbrev pub data_round : ℕ → ℕ
data_round round = round - look_back

-- the first block that it holds
abbrev pub first_block : ℕ → ℕ
first_block round = max 1 (round - 1319)

-- ---- what is written

-- the elements of all rows
abbrev pub elements_of : FinMap key_cmp Stored → Elements
elements_of rows = set_of (map (λ e. element_of e.0 e.1) (entries rows))

-- the root of all rows
abbrev pub root_of_rows : FinMap key_cmp Stored → List ℕ
root_of_rows rows = root (elements_of rows)

-- what is known at a round: the rows, the totals, and the bytes of each block that is kept
pub record Shown : Type 0 where
  pub rows : FinMap key_cmp Stored
  pub totals : Totals
  pub block : ℕ → List ℕ

-- a row in a file
abbrev pub chunk_row : Key × Stored → ChunkRow
chunk_row e = record { key = key_bytes e.0; spelling = spelled (values.Map (row_written e.1.row)); changed = e.1.changed }

-- the most rows of a chunk
abbrev pub chunk_size : ℕ
chunk_size = 512

-- so many rows fill so many chunks, the last of which may have fewer than 512
abbrev pub chunk_count : ℕ → ℕ
chunk_count rows = (rows + (chunk_size - 1)) / chunk_size

-- the chunk of a number, from 0 on
abbrev pub chunk_at : FinMap key_cmp Stored → ℕ → Chunk
chunk_at rows k = record { number = k; rows = map chunk_row (take chunk_size (drop (chunk_size * k) (entries rows))) }

abbrev pub chunk_bytes : FinMap key_cmp Stored → ℕ → List ℕ
chunk_bytes rows k = spelled (values.Map (chunk.write (chunk_at rows k)))

-- what is written of the rows for the catchpoint of a round
abbrev pub rows_written : ℕ → Shown → RowsWritten
rows_written round s = record { round = round; chunks = chunk_count (length (entries s.rows)); root = root_of_rows s.rows; totals = s.totals }

abbrev pub info_of : RowsWritten → CatchInfo
info_of w = record { chunks = w.chunks; round = data_round w.round; totals = w.totals }

abbrev pub info_bytes : RowsWritten → List ℕ
info_bytes w = spelled (values.Map (info.write (info_of w)))

-- the label's text and a line feed
abbrev pub label_line : Label → List ℕ
label_line l = label_text_of l ++ 10 ∷ []

-- ---- the folder

-- each chunk of the rows stands in its file
abbrev pub HoldsChunks : ℕ → FinMap key_cmp Stored → FileMap → Type 0
HoldsChunks round rows files = (k : ℕ) → k < chunk_count (length (entries rows)) → files (name_of round (file.Rows k)) ≡ Some (chunk_bytes rows k)

-- each block that the catchpoint holds stands in its file
abbrev pub HoldsBlocks : ℕ → (ℕ → List ℕ) → FileMap → Type 0
HoldsBlocks round block files = (n : ℕ) → first_block round ≤ n → n ≤ round → files (name_of round (file.Block n)) ≡ Some (block n)

-- what the catchpoint says of itself, and its label, stand in their files
pub record HoldsTip (w : RowsWritten) (l : Label) (files : FileMap) : Type 0 where
  pub info : files (name_of w.round file.Info) ≡ Some (info_bytes w)
  pub label : files (name_of w.round file.Label) ≡ Some (label_line l)

-- only files of such names were changed, where the files are told
abbrev pub KeepsBut : (List ℕ → Type 0) → Option FileMap → Option FileMap → Type 0
KeepsBut Own None now = ⊤
KeepsBut Own (Some before) None = ⊥
KeepsBut Own (Some before) (Some now) = (name : List ℕ) → (Own name → ⊥) → now name ≡ before name

-- the files are such now, where they were told before
abbrev pub Leaves : Option FileMap → Option FileMap → (FileMap → Type 0) → Type 0
Leaves None now P = ⊤
Leaves (Some before) None P = ⊥
Leaves (Some before) (Some now) P = P now

-- a file of rows, or another
abbrev pub IsOfRows : CatchFile → Type 0
IsOfRows (file.Rows k) = ⊤
IsOfRows file.Info = ⊥
IsOfRows (file.Block n) = ⊥
IsOfRows file.Label = ⊥

-- the name of a file of the catchpoint of a round, of its rows, or of what is no row
abbrev pub IsCatchName : ℕ → List ℕ → Type 0
IsCatchName round name = (f : CatchFile) × (name ≡ name_of round f)

abbrev pub IsRowsName : ℕ → List ℕ → Type 0
IsRowsName round name = (f : CatchFile) × IsOfRows f × (name ≡ name_of round f)

abbrev pub IsTipName : ℕ → List ℕ → Type 0
IsTipName round name = (f : CatchFile) × (IsOfRows f → ⊥) × (name ≡ name_of round f)

-- ---- causes

-- how often the rows were overtaken, how often they failed, and how often the folder failed
pub record Counts : Type 0 where
  pub overtaken : ℕ
  pub failed : ℕ
  pub folder : ℕ

-- none fell
pub record Later (before now : Counts) : Type 0 where
  pub overtaken : before.overtaken ≤ now.overtaken
  pub failed : before.failed ≤ now.failed
  pub folder : before.folder ≤ now.folder

-- why rows are not given
abbrev pub RowsCause : {A F : Type 0} → (overtaken overtaken_now failed failed_now : ℕ) → Result A (RowsFault F) → Type 0
RowsCause before now old new (Ok a) = ⊤
RowsCause before now old new (Err (faults.Overtaken round)) = Rose before now
RowsCause before now old new (Err (faults.Failed f)) = Rose old new
RowsCause before now old new (Err faults.Memory) = ⊤

-- the rows were not overtaken
abbrev pub IsNotOvertaken : {A F : Type 0} → Result A (RowsFault F) → Type 0
IsNotOvertaken (Ok a) = ⊤
IsNotOvertaken (Err (faults.Overtaken round)) = ⊥
IsNotOvertaken (Err (faults.Failed f)) = ⊤
IsNotOvertaken (Err faults.Memory) = ⊤

-- why a catchpoint is not written
abbrev pub CatchCause : {A F : Type 0} → (interval round : ℕ) → Counts → Counts → Result A (CatchRefusal F) → Type 0
CatchCause interval round before now (Ok a) = ⊤
CatchCause interval round before now (Err (refusals.Overtaken at)) = Rose before.overtaken now.overtaken
CatchCause interval round before now (Err (refusals.NotCatchpointRound named)) = (named ≡ round) × (is_catchpoint_round interval round ≡ false)
CatchCause interval round before now (Err (refusals.FolderFault f)) = Rose before.folder now.folder
CatchCause interval round before now (Err (refusals.Rows f)) = Rose before.failed now.failed
CatchCause interval round before now (Err refusals.Memory) = ⊤

-- the refusal is none for the rows' round, and the rows were not overtaken
abbrev pub IsCalm : {A F : Type 0} → Result A (CatchRefusal F) → Type 0
IsCalm (Ok a) = ⊤
IsCalm (Err (refusals.Overtaken round)) = ⊥
IsCalm (Err (refusals.NotCatchpointRound round)) = ⊤
IsCalm (Err (refusals.FolderFault f)) = ⊤
IsCalm (Err (refusals.Rows f)) = ⊤
IsCalm (Err refusals.Memory) = ⊤

-- why the tip is not written: the folder, the rows or memory alone
abbrev pub TipCause : {A F : Type 0} → Counts → Counts → Result A (CatchRefusal F) → Type 0
TipCause before now (Ok a) = ⊤
TipCause before now (Err (refusals.Overtaken at)) = ⊥
TipCause before now (Err (refusals.NotCatchpointRound named)) = ⊥
TipCause before now (Err (refusals.FolderFault f)) = Rose before.folder now.folder
TipCause before now (Err (refusals.Rows f)) = Rose before.failed now.failed
TipCause before now (Err refusals.Memory) = ⊤
