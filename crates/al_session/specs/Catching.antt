-- What a run is that writes the catchpoint of a round of the chain in a file of blocks.
use Rattle.std.specs.Prelude.{◌≡◌, ◌⊎◌, ◌≤◌, ◌<◌, ℕ, suc, List, [], length, false, Some}
use Rattle.al_base.specs.Causes.{Left, Rose}
use Rattle.al_catch.specs.Catching.{IsCatchName, KeepsBut, Leaves, is_catchpoint_round}
use Rattle.al_catch.specs.Files.{name_of}
use Rattle.al_catch.specs.declared.files.CatchFile.{CatchFile}
use Rattle.al_catch.specs.declared.label.Label.{Label}
use Rattle.al_catch.specs.Catching.{label_line}
use Rattle.al_catchpoint.specs.Applying.{IsStopped, Takes}
use Rattle.al_catchpoint.specs.Chains.{HoldsCatchpoint, IsLabelOf}
use Rattle.al_eval.specs.Start.{start}
use Rattle.al_genesis.specs.declared.genesis.Genesis.{Genesis}
use Rattle.al_genesis.specs.Genesis.{IsGenesis}
use Rattle.al_session.specs.Outside.{Holds, IsNoGenesis, IsShort, IsUnread, Outside, SaysAlone, Sends, Unchanged, block_line, catchpoint_line, folder_line, most_blocks, most_genesis}
use Rattle.al_states.specs.Held.{Held}

-- what the two files hold: a genesis, and bytes of blocks
pub record AreInputs (first second : List ℕ) (before : Outside) (genesis : Genesis) (bytes : List ℕ) : Type 0 where
  pub file : List ℕ
  pub holds : Holds before.files first (Some file)
  pub short : length file ≤ most_genesis
  pub decodes : IsGenesis file genesis
  pub holds_blocks : Holds before.files second (Some bytes)
  pub few : length bytes ≤ most_blocks

-- the ledger that a genesis begins, with no block
abbrev pub begun : Genesis → Held
begun g = record { origin = start g; blocks = [] }

-- status 6: the round has no catchpoint
pub record IsNoRound (round : ℕ) (genesis : Genesis) (before after : Outside) (n : ℕ) : Type 0 where
  pub status : n ≡ 6
  pub cause : is_catchpoint_round genesis.chain.catch_interval round ≡ false
  pub line : SaysAlone (catchpoint_line 2) before after

-- status 6: all blocks of the file were taken, and the last round is below the catchpoint's
pub record IsBehind (round : ℕ) (genesis : Genesis) (bytes : List ℕ) (before after : Outside) (n : ℕ) : Type 0 where
  pub status : n ≡ 6
  pub held : Held
  pub takes : Takes (begun genesis) bytes held []
  pub cause : length held.blocks < round
  pub line : SaysAlone (catchpoint_line 6) before after

-- status 8: the first pieces of the file were taken, and the next is refused
pub record IsRefusedAt (genesis : Genesis) (bytes : List ℕ) (before after : Outside) (n : ℕ) : Type 0 where
  pub status : n ≡ 8
  pub held : Held
  pub rest : List ℕ
  pub takes : Takes (begun genesis) bytes held rest
  pub stops : IsStopped held rest
  pub line : SaysAlone (block_line (suc (length held.blocks))) before after

-- status 4: the folder failed at this file of the catchpoint
pub record IsUnsaved (round : ℕ) (before after : Outside) (n : ℕ) : Type 0 where
  pub status : n ≡ 4
  pub file : CatchFile
  pub cause : Rose before.folder_faults after.folder_faults
  pub line : SaysAlone (folder_line (name_of round file)) before after

-- all blocks of the file were taken, the files of the catchpoint stand now, and its label was sent
pub record IsCatchpoint (round : ℕ) (genesis : Genesis) (bytes : List ℕ) (before after : Outside) (n : ℕ) : Type 0 where
  pub held : Held
  pub takes : Takes (begun genesis) bytes held []
  pub label : Label
  pub round_is : label.round ≡ round
  pub is_label : IsLabelOf held label
  pub files : Leaves before.files after.files (HoldsCatchpoint held label)
  pub taken : Left before.left after.left []
  pub source_kept : after.source_faults ≡ before.source_faults
  pub sends : Sends (label_line label) before.written after.written before.sink_faults after.sink_faults n

-- the two files are read; what comes of their round. Where it has a catchpoint no file but those of it is changed
abbrev pub IsWorked : ℕ → Genesis → List ℕ → Outside → Outside → ℕ → Type 0
IsWorked round genesis bytes before after status =
    Unchanged (IsNoRound round genesis) before after status
    ⊎ ((IsBehind round genesis bytes before after status ⊎ IsRefusedAt genesis bytes before after status ⊎ IsUnsaved round before after status ⊎ IsShort before after status ⊎ IsCatchpoint round genesis bytes before after status)
    × KeepsBut (IsCatchName round) before.files after.files)

-- the run that writes a catchpoint
abbrev pub IsCatching : (genesis blocks : List ℕ) (round : ℕ) → Outside → Outside → ℕ → Type 0
IsCatching genesis blocks round before after status =
    Unchanged (IsUnread most_genesis genesis) before after status
    ⊎ Unchanged (IsNoGenesis genesis) before after status
    ⊎ Unchanged (IsUnread most_blocks blocks) before after status
    ⊎ Unchanged IsShort before after status
    ⊎ ((made : Genesis) × (bytes : List ℕ) × AreInputs genesis blocks before made bytes × IsWorked round made bytes before after status)
