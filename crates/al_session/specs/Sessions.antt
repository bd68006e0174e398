-- What a run of the program is: its line of words, its one line of text, and its status.
use Rattle.std.specs.Prelude.{◌≢◌, ◌≤◌, ◌<◌, ◌≡◌, ◌⊎◌, ℕ, List, [], length, Option, Some, None}
use Rattle.al_base.specs.Causes.{Rose}
use Rattle.al_genesis.specs.declared.genesis.Genesis.{Genesis}
use Rattle.al_genesis.specs.Genesis.{IsGenesis}
use Rattle.al_eval.specs.Start.{start}
use Rattle.al_session.specs.Catching.{IsCatching}
use Rattle.al_session.specs.Connection.{Serves}
use Rattle.al_session.specs.Generating.{IsGeneration, most_generated}
use Rattle.al_session.specs.Outside.{Holds, IsNoGenesis, IsShort, IsUnread, IsUsage, Outside, Unchanged, most_genesis}
use Rattle.al_states.specs.Held.{AreApart, Held, IsValid, KeepsMoney}
use Rattle.al_session.specs.declared.link.Ended.{Ended}
use Rattle.al_session.specs.declared.link.Ended.TheVariants as ended
use Rattle.al_words.specs.Lines.{Reads, Says as Means}
use Rattle.al_words.specs.declared.line.Line.{Line}
use Rattle.al_words.specs.declared.line.Line.TheVariants as lines

-- the status of a session by the end of its connection
abbrev pub status_of : Ended → ℕ
status_of ended.Finished = 0
status_of (ended.CutShort at) = 5
status_of ended.BadHead = 5
status_of ended.Unreadable = 5
status_of ended.SourceFault = 5
status_of ended.SinkFault = 5
status_of ended.Spent = 5
status_of ended.Memory = 7

-- the connection was served from the state of the file's genesis, and the status says how it ended; a count of faults of the source
-- or the sink rises only where that fault ended it. That no money is made or lost asks that the states are apart; nothing else does
pub record IsServed (name : List ℕ) (before after : Outside) (n : ℕ) : Type 0 where
  pub file : List ℕ
  pub holds : Holds before.files name (Some file)
  pub short : length file ≤ most_genesis
  pub genesis : Genesis
  pub decodes : IsGenesis file genesis
  pub held : Held
  pub end : Ended
  pub serves : Serves (record { origin = start genesis; blocks = [] }) held before.left after.left before.written after.written end
  pub valid : IsValid held.origin held.blocks
  pub money : AreApart held → KeepsMoney held
  pub status : n ≡ status_of end
  pub source_fault : end ≡ ended.SourceFault → Rose before.source_faults after.source_faults
  pub sink_fault : end ≡ ended.SinkFault → Rose before.sink_faults after.sink_faults
  pub source_kept : end ≢ ended.SourceFault → after.source_faults ≡ before.source_faults
  pub sink_kept : end ≢ ended.SinkFault → after.sink_faults ≡ before.sink_faults

-- the session of a genesis file
abbrev pub IsSession : List ℕ → Outside → Outside → ℕ → Type 0
IsSession name before after status = IsUnread most_genesis name before after status ⊎ IsNoGenesis name before after status ⊎ IsShort before after status ⊎ IsServed name before after status

-- a run of a line, or of words that are none
abbrev pub RunsOf : Option Line → Outside → Outside → ℕ → Type 0
RunsOf None before after status = Unchanged IsUsage before after status
RunsOf (Some (lines.Session genesis)) before after status = Unchanged (IsSession genesis.now) before after status
RunsOf (Some (lines.Serve genesis port)) before after status = Unchanged IsUsage before after status
RunsOf (Some (lines.Generate number blocks)) before after status = ((blocks ≤ most_generated) × IsGeneration number blocks before after status) ⊎ ((most_generated < blocks) × Unchanged IsUsage before after status)
RunsOf (Some (lines.Catchpoint genesis blocks round)) before after status = IsCatching genesis.now blocks.now round before after status
RunsOf (Some (lines.Catchup genesis label)) before after status = Unchanged IsUsage before after status
RunsOf (Some (lines.Label round)) before after status = Unchanged IsUsage before after status

-- what a run of the program is: it runs the line that the words are, unless memory is short before
abbrev pub Runs : List (List ℕ) → Outside → Outside → ℕ → Type 0
Runs words before after status = Unchanged IsShort before after status ⊎ ((line : Option Line) × Reads (Means words) line × RunsOf line before after status)
