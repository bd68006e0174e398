-- The catchpoint of a round of a chain: its label, and the files that hold it.
use Rattle.std.specs.Prelude.{◌≡◌, ℕ, List, take, Result, Ok, Err, ⊤}
use Rattle.al_base.specs.Causes.{Rose}
use Rattle.al_base.specs.Folders.{FileMap}
use Rattle.al_block.specs.Hashes.{header_hash_of}
use Rattle.al_block.specs.declared.block.Block.{Block}
use Rattle.al_catch.specs.Catching.{HoldsBlocks, HoldsChunks, HoldsTip, Shown, data_round, root_of_rows, rows_written}
use Rattle.al_catch.specs.Labels.{label_of, label_string}
use Rattle.al_catch.specs.declared.label.Label.{Label}
use Rattle.al_eval.specs.State.{State, counts_in, replay}
use Rattle.al_states.specs.Held.{Held}
use Rattle.al_states.specs.Replies.{IsBlockOf}
use Rattle.al_states.specs.Spellings.{spelling_at}
use Rattle.al_catchpoint.specs.declared.writing.WriteFault.{WriteFault}
use Rattle.al_catchpoint.specs.declared.writing.WriteFault.TheVariants as faults

-- what is known after a state, with the blocks of a chain
abbrev pub shown_of : State → List Block → Shown
shown_of s blocks = record { rows = s.rows; totals = counts_in s; block = spelling_at blocks }

-- the state whose rows the catchpoint of a round holds: it lies 320 rounds before
abbrev pub IsData : Held → ℕ → State → Type 0
IsData h round s = replay h.origin (take (data_round round) h.blocks) ≡ Ok s

-- the label of a round of a chain: its digest is taken of the hash of that round's block, the root of the rows and the totals after the block 320 rounds before
pub record IsLabelOf (h : Held) (l : Label) : Type 0 where
  pub state : State
  pub is_data : IsData h l.round state
  pub last : Block
  pub block : IsBlockOf h.blocks l.round last
  pub is : l ≡ label_of l.round (label_string (header_hash_of last.header) (root_of_rows state.rows) (counts_in state))

-- the files hold the catchpoint of a label's round of a chain
pub record HoldsCatchpoint (h : Held) (l : Label) (files : FileMap) : Type 0 where
  pub state : State
  pub is_data : IsData h l.round state
  pub chunks : HoldsChunks l.round state.rows files
  pub tip : HoldsTip (rows_written l.round (shown_of state h.blocks)) l files
  pub blocks : HoldsBlocks l.round (spelling_at h.blocks) files

-- why a catchpoint is not written: the folder failed, or memory is short
abbrev pub WriteCause : {A : Type 0} → ℕ → ℕ → Result A WriteFault → Type 0
WriteCause before now (Ok a) = ⊤
WriteCause before now (Err (faults.Folder file)) = Rose before now
WriteCause before now (Err faults.Memory) = ⊤
