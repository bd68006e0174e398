-- What a run is that makes a chain.
use Rattle.std.specs.Prelude.{◌≡◌, ◌⊎◌, ℕ, List, [], Ok}
use Rattle.al_base.specs.Causes.{Left, Rose}
use Rattle.al_catch.specs.Catching.{KeepsBut}
use Rattle.al_catch.specs.Files.{name_of}
use Rattle.al_catch.specs.declared.files.CatchFile.{CatchFile}
use Rattle.al_catch.specs.declared.label.Label.{Label}
use Rattle.al_eval.specs.State.{State, replay}
use Rattle.al_generated.specs.Catchpoints.{HasCatchpoints, IsOwnName, whole_summary}
use Rattle.al_generated.specs.Chain.{generated_blocks, origin}
use Rattle.al_session.specs.Outside.{IsShort, Outside, SaysAlone, Sends, folder_line}

-- the most blocks of a chain that is made, all of which are held in memory
abbrev pub most_generated : ℕ
most_generated = 1000

-- the chain was made and its summary sent, with the labels of its catchpoints, whose files stand now
pub record IsSummed (number blocks : ℕ) (before after : Outside) (n : ℕ) : Type 0 where
  pub state : State
  pub replayed : replay origin (generated_blocks number blocks) ≡ Ok state
  pub labels : List Label
  pub holds : HasCatchpoints number blocks labels before.files after.files
  pub taken : Left before.left after.left []
  pub source_kept : after.source_faults ≡ before.source_faults
  pub sends : Sends (whole_summary blocks state labels) before.written after.written before.sink_faults after.sink_faults n

-- status 4: the folder failed at this file of a catchpoint
pub record IsUnwritten (before after : Outside) (n : ℕ) : Type 0 where
  pub status : n ≡ 4
  pub round : ℕ
  pub file : CatchFile
  pub cause : Rose before.folder_faults after.folder_faults
  pub line : SaysAlone (folder_line (name_of round file)) before after

-- the run that makes a chain; with status 7 there was no memory, or a block of the chain was refused. No file but those of its catchpoints is changed
abbrev pub IsGeneration : ℕ → ℕ → Outside → Outside → ℕ → Type 0
IsGeneration number blocks before after status =
    (IsSummed number blocks before after status ⊎ IsUnwritten before after status ⊎ IsShort before after status)
    × KeepsBut (IsOwnName blocks) before.files after.files
