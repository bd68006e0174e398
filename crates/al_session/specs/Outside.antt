-- What a run sees of the outside, what it writes there, and what is common to the endings of all lines.
use Rattle.std.specs.Prelude.{◌≡◌, ◌⊎◌, ◌<◌, ◌≤◌, ◌+◌, ⊤, ℕ, List, [], ◌∷◌, ◌++◌, length, codes, decimal, Option, Some, None, IsSomeAnd}
use mathlib.Core.List.{IsPrefix}
use Rattle.al_base.specs.Causes.{Left, Wrote, Rose}
use Rattle.al_base.specs.Folders.{FileMap}
use Rattle.al_block.specs.Block.{most_bytes}
use Rattle.al_states.specs.Opening.{IsRefusedGenesis}
use Rattle.al_states.specs.declared.opening.OpenFault.{OpenFault}
use Rattle.al_states.specs.declared.opening.OpenFault.TheVariants as faults

-- the line of status 2; 10 ends a line
abbrev pub usage_line : List ℕ
usage_line = codes "usage: al_node [--db FILE] COMMAND" ++ 10 ∷ []

-- the line of status 3 names the number, a digit: 48 is the byte of 0
abbrev pub genesis_line : ℕ → List ℕ
genesis_line n = codes "genesis: " ++ (48 + n) ∷ 10 ∷ []

-- the line of status 4 names the file
abbrev pub folder_line : List ℕ → List ℕ
folder_line name = codes "folder: " ++ name ++ 10 ∷ []

-- the line of status 6 names the number, a digit
abbrev pub catchpoint_line : ℕ → List ℕ
catchpoint_line n = codes "catchpoint: " ++ (48 + n) ∷ 10 ∷ []

-- the line of status 8 names the round that was due
abbrev pub block_line : ℕ → List ℕ
block_line n = codes "block " ++ (decimal n ++ 10 ∷ [])

-- one line was written, or a front of it where the sink failed, whose count of faults rose then and stayed else
abbrev pub Says : List ℕ → Option (List ℕ) → Option (List ℕ) → ℕ → ℕ → Type 0
Says line before now f g = (Wrote before now line × (g ≡ f)) ⊎ ((part : List ℕ) × IsPrefix part line × Wrote before now part × Rose f g)

-- the number that is shown is a digit
abbrev pub IsDigit : OpenFault → Type 0
IsDigit (faults.Genesis n) = n ≤ 9
IsDigit faults.Memory = ⊤

-- what a file that opens nothing is answered: one line and status 3, or nothing and status 7
abbrev pub Refuses : OpenFault → Option (List ℕ) → Option (List ℕ) → ℕ → ℕ → ℕ → Type 0
Refuses (faults.Genesis n) before now f g status = (status ≡ 3) × Says (genesis_line n) before now f g
Refuses faults.Memory before now f g status = (status ≡ 7) × Wrote before now [] × (g ≡ f)

-- no file is changed, where the files are told
abbrev pub KeepsFiles : Option FileMap → Option FileMap → Type 0
KeepsFiles None now = ⊤
KeepsFiles (Some before) None = ⊥
KeepsFiles (Some before) (Some now) = (name : List ℕ) → now name ≡ before name

-- what a run sees of the outside: the bytes that are left in the source, those that went to the sink, the files, and the counts of faults
pub record Outside : Type 0 where
  pub left : Option (List ℕ)
  pub written : Option (List ℕ)
  pub files : Option FileMap
  pub source_faults : ℕ
  pub sink_faults : ℕ
  pub folder_faults : ℕ

-- nothing was taken, and one line was written
pub record SaysAlone (line : List ℕ) (before after : Outside) : Type 0 where
  pub taken : Left before.left after.left []
  pub source_kept : after.source_faults ≡ before.source_faults
  pub says : Says line before.written after.written before.sink_faults after.sink_faults

-- nothing was taken or written
pub record IsSilent (before after : Outside) : Type 0 where
  pub taken : Left before.left after.left []
  pub written : Wrote before.written after.written []
  pub source_kept : after.source_faults ≡ before.source_faults
  pub sink_kept : after.sink_faults ≡ before.sink_faults

-- a text was written, with status 0; or a front of it, where the sink failed, with status 5
abbrev pub Sends : List ℕ → Option (List ℕ) → Option (List ℕ) → ℕ → ℕ → ℕ → Type 0
Sends text before now f g status = ((status ≡ 0) × Wrote before now text × (g ≡ f)) ⊎ ((status ≡ 5) × ((part : List ℕ) × IsPrefix part text × Wrote before now part × Rose f g))

-- the most bytes of a genesis file, which are those of a block
abbrev pub most_genesis : ℕ
most_genesis = most_bytes

-- the most bytes of a file of blocks
abbrev pub most_blocks : ℕ
most_blocks = 536870912

-- this is what the name holds, where the files are told
abbrev pub Holds : Option FileMap → List ℕ → Option (List ℕ) → Type 0
Holds None name file = ⊤
Holds (Some files) name file = files name ≡ file

-- the file is longer than a limit, where the files are told
abbrev pub IsTooLong : ℕ → Option FileMap → List ℕ → Type 0
IsTooLong limit None name = ⊤
IsTooLong limit (Some files) name = IsSomeAnd (files name) (λ bytes. limit < length bytes)

-- status 4: the folder failed, or the file is missing or longer than a limit
pub record IsUnread (limit : ℕ) (name : List ℕ) (before after : Outside) (n : ℕ) : Type 0 where
  pub status : n ≡ 4
  pub cause : Rose before.folder_faults after.folder_faults ⊎ Holds before.files name None ⊎ IsTooLong limit before.files name
  pub line : SaysAlone (folder_line name) before after

-- status 3: the file holds no genesis
pub record IsNoGenesis (name : List ℕ) (before after : Outside) (n : ℕ) : Type 0 where
  pub status : n ≡ 3
  pub number : ℕ
  pub cause : (file : List ℕ) × Holds before.files name (Some file) × IsRefusedGenesis file number
  pub line : SaysAlone (genesis_line number) before after

-- status 7: there was no memory before the connection was served
pub record IsShort (before after : Outside) (n : ℕ) : Type 0 where
  pub status : n ≡ 7
  pub silent : IsSilent before after

-- status 2: the words are no line that is served
abbrev pub IsUsage : Outside → Outside → ℕ → Type 0
IsUsage before after status = (status ≡ 2) × SaysAlone usage_line before after

-- a run that changes no file, where the files are told
abbrev pub Unchanged : (Outside → Outside → ℕ → Type 0) → Outside → Outside → ℕ → Type 0
Unchanged Ends before after status = Ends before after status × KeepsFiles before.files after.files
