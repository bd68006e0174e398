-- Why a catchpoint is not written, of what the writing of its files says.
use Rattle.std.specs.Prelude.{⊤}
use Rattle.al_catch.specs.declared.writing.CatchRefusal.{CatchRefusal}
use Rattle.al_catch.specs.declared.writing.CatchRefusal.TheVariants as refusals
use Rattle.al_catchpoint.specs.declared.writing.WriteFault.{WriteFault}
use Rattle.al_catchpoint.specs.declared.writing.WriteFault.TheVariants as faults

-- the folder failed at a file, or else memory is short
abbrev pub fault_of : {F : Type 0} → CatchRefusal F → WriteFault
fault_of (refusals.FolderFault file) = faults.Folder file
fault_of (refusals.Overtaken round) = faults.Memory
fault_of (refusals.NotCatchpointRound round) = faults.Memory
fault_of (refusals.Rows f) = faults.Memory
fault_of refusals.Memory = faults.Memory

-- the round has a catchpoint, and the rows are those of the front
abbrev pub IsOwnFault : {F : Type 0} → CatchRefusal F → Type 0
IsOwnFault (refusals.FolderFault file) = ⊤
IsOwnFault (refusals.Overtaken round) = ⊥
IsOwnFault (refusals.NotCatchpointRound round) = ⊥
IsOwnFault (refusals.Rows f) = ⊤
IsOwnFault refusals.Memory = ⊤
