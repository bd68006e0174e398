-- What is made of the blocks of a file for the catchpoint of a round.
use Rattle.std.specs.Prelude.{◌≡◌, ◌<◌, ℕ, List, [], length, Result, Ok, Err, ⊤}
use Rattle.al_base.specs.Causes.{Rose}
use Rattle.al_catch.specs.declared.label.Label.{Label}
use Rattle.al_catchpoint.specs.Applying.{IsStopped, Takes}
use Rattle.al_catchpoint.specs.Chains.{IsLabelOf}
use Rattle.al_catchpoint.specs.declared.applying.ApplyStop.{ApplyStop}
use Rattle.al_catchpoint.specs.declared.applying.ApplyStop.TheVariants as stops
use Rattle.al_catchpoint.specs.declared.writing.WriteFault.{WriteFault}
use Rattle.al_catchpoint.specs.declared.writing.WriteFault.TheVariants as faults
use Rattle.al_session.specs.declared.working.CatchEnd.{CatchEnd}
use Rattle.al_session.specs.declared.working.CatchEnd.TheVariants as ends
use Rattle.al_states.specs.Held.{Held}

-- why no catchpoint was written, where a block was not posted, and where a file was not written
abbrev pub stop_end : ApplyStop → CatchEnd
stop_end stops.Refused = ends.Refused
stop_end stops.Memory = ends.Memory

abbrev pub fault_end : WriteFault → CatchEnd
fault_end (faults.Folder file) = ends.Folder file
fault_end faults.Memory = ends.Memory

-- the pieces of the bytes were posted and the last is of a lower round, or the next is refused, or the folder failed, or memory is short
abbrev pub StopsBy : Held → List ℕ → (round : ℕ) → (before now : ℕ) → Held → CatchEnd → Type 0
StopsBy h bytes round before now held ends.Behind = Takes h bytes held [] × (length held.blocks < round)
StopsBy h bytes round before now held ends.Refused = (rest : List ℕ) × Takes h bytes held rest × IsStopped held rest
StopsBy h bytes round before now held (ends.Folder file) = Rose before now
StopsBy h bytes round before now held ends.Memory = ⊤

-- the pieces at the front of the bytes were posted up to a round; whatever the folder counts, it failed not
abbrev pub Reaches : Held → List ℕ → (round : ℕ) → Held → Result (List ℕ) CatchEnd → Type 0
Reaches h bytes round held (Ok rest) = Takes h bytes held rest × (length held.blocks ≡ round)
Reaches h bytes round held (Err end) = (before now : ℕ) → StopsBy h bytes round before now held end

-- all pieces were posted
abbrev pub Exhausts : {A : Type 0} → Held → List ℕ → Held → Result A CatchEnd → Type 0
Exhausts h bytes held (Ok x) = Takes h bytes held []
Exhausts h bytes held (Err end) = (round before now : ℕ) → StopsBy h bytes round before now held end

-- all pieces were posted, and this is the label of the round
pub record IsLabelled (h : Held) (bytes : List ℕ) (round : ℕ) (held : Held) (label : Label) : Type 0 where
  pub takes : Takes h bytes held []
  pub round_is : label.round ≡ round
  pub is_label : IsLabelOf held label

-- the catchpoint was written, or why not
abbrev pub Works : Held → List ℕ → (round : ℕ) → (before now : ℕ) → Held → Result Label CatchEnd → Type 0
Works h bytes round before now held (Ok label) = IsLabelled h bytes round held label
Works h bytes round before now held (Err end) = StopsBy h bytes round before now held end
