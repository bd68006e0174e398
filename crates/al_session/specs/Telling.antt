-- What is read for a run, and how it is told that this or its work failed.
use Rattle.std.specs.Prelude.{◌≡◌, ◌⊎◌, ◌≤◌, ℕ, suc, List, [], length, Option, Some, None, Result, Ok, Err, ⊤}
use Rattle.al_base.specs.Causes.{Rose, Wrote}
use Rattle.al_base.specs.Folders.{FileMap}
use Rattle.al_catch.specs.Files.{name_of}
use Rattle.al_generated.specs.declared.chain.GenerateRefusal.{GenerateRefusal}
use Rattle.al_generated.specs.declared.chain.GenerateRefusal.TheVariants as refusals
use Rattle.al_session.specs.Outside.{Holds, IsTooLong, Says, block_line, catchpoint_line, folder_line}
use Rattle.al_session.specs.declared.input.ReadFault.{ReadFault}
use Rattle.al_session.specs.declared.input.ReadFault.TheVariants as reads
use Rattle.al_session.specs.declared.working.CatchEnd.{CatchEnd}
use Rattle.al_session.specs.declared.working.CatchEnd.TheVariants as ends

-- what a file holds, or why it was not read
abbrev pub IsInput : (limit : ℕ) (name : List ℕ) (files : Option FileMap) (before now : ℕ) → Result (List ℕ) ReadFault → Type 0
IsInput limit name files before now (Ok bytes) = Holds files name (Some bytes) × (length bytes ≤ limit)
IsInput limit name files before now (Err reads.Unread) = Rose before now ⊎ Holds files name None ⊎ IsTooLong limit files name
IsInput limit name files before now (Err reads.Memory) = ⊤

-- nothing was written, and the status is that of want of memory
abbrev pub IsMute : (before now : Option (List ℕ)) (f g status : ℕ) → Type 0
IsMute before now f g status = (status ≡ 7) × Wrote before now [] × (g ≡ f)

-- one line was written with a status, unless there was no memory for it
abbrev pub Tells : (line : List ℕ) (due : ℕ) (before now : Option (List ℕ)) (f g status : ℕ) → Type 0
Tells line due before now f g status = ((status ≡ due) × Says line before now f g) ⊎ IsMute before now f g status

-- how it is told that a file was not read
abbrev pub TellsUnread : List ℕ → ReadFault → (before now : Option (List ℕ)) (f g status : ℕ) → Type 0
TellsUnread name reads.Unread before now f g status = Tells (folder_line name) 4 before now f g status
TellsUnread name reads.Memory before now f g status = IsMute before now f g status

-- how it is told that no chain was made
abbrev pub TellsRefusal : GenerateRefusal → (before now : Option (List ℕ)) (f g status : ℕ) → Type 0
TellsRefusal refusals.Refused before now f g status = IsMute before now f g status
TellsRefusal (refusals.Folder round file) before now f g status = Tells (folder_line (name_of round file)) 4 before now f g status
TellsRefusal refusals.Memory before now f g status = IsMute before now f g status

-- how it is told that no catchpoint of a round was written, where the last round is this
abbrev pub TellsEnd : (round front : ℕ) → CatchEnd → (before now : Option (List ℕ)) (f g status : ℕ) → Type 0
TellsEnd round front ends.Behind before now f g status = Tells (catchpoint_line 6) 6 before now f g status
TellsEnd round front ends.Refused before now f g status = Tells (block_line (suc front)) 8 before now f g status
TellsEnd round front (ends.Folder file) before now f g status = Tells (folder_line (name_of round file)) 4 before now f g status
TellsEnd round front ends.Memory before now f g status = IsMute before now f g status
