-- What goes through a folder.
use Rattle.std.specs.Prelude.{◌≡◌, ◌≢◌, ℕ, ◌≤◌, ◌<◌, List, length, ⊤, Bool, true, false, Option, Some, None, Result, Ok, Err, IfSome, IsSomeAnd, bytes_eq, find, option_map}
use Rattle.al_base.specs.Causes.{Rose}
use Rattle.al_base.specs.declared.folder.FolderRefusal.{FolderRefusal}
use Rattle.al_base.specs.declared.folder.FolderRefusal.TheVariants.{Failed, TooLong, Memory}
use Rattle.al_base.specs.declared.folder.NamedFile.{NamedFile}

-- what each name of a folder holds, where there is such a file
abbrev pub FileMap : Type 0
FileMap = List ℕ → Option (List ℕ)

-- whether a file has this name
abbrev pub is_named : List ℕ → NamedFile → Bool
is_named name file = bytes_eq file.name name

-- the files of a list; of two of one name the first
abbrev pub file_of : List NamedFile → FileMap
file_of files name = option_map (λ file. file.bytes) (find (is_named name) files)

-- every file but this one is as before
abbrev pub KeepsOthers : FileMap → FileMap → List ℕ → Type 0
KeepsOthers before now name = (other : List ℕ) → other ≢ name → now other ≡ before other

-- this file holds these bytes, and every other is as before
abbrev pub Replaces : FileMap → FileMap → List ℕ → List ℕ → Type 0
Replaces before now name bytes = (now name ≡ Some bytes) × KeepsOthers before now name

-- what a read answers of a file: the file, or that it is too long
abbrev pub Answers : Option (List ℕ) → ℕ → Result (Option (List ℕ)) FolderRefusal → Type 0
Answers file limit (Ok found) = found ≡ file
Answers file limit (Err Failed) = ⊤
Answers file limit (Err (TooLong kept)) = IsSomeAnd file (λ bytes. limit < length bytes)
Answers file limit (Err Memory) = ⊤

-- what a read says of the files, where the folder tells: it changes none, and answers this one
abbrev pub Reads : Option FileMap → Option FileMap → List ℕ → ℕ → Result (Option (List ℕ)) FolderRefusal → Type 0
Reads None now name limit result = ⊤
Reads (Some before) None name limit result = ⊥
Reads (Some before) (Some now) name limit result = ((other : List ℕ) → now other ≡ before other) × Answers (before name) limit result

-- what every read says: no more bytes than the limit, and a refusal for length names it
abbrev pub IsWithinLimit : ℕ → Result (Option (List ℕ)) FolderRefusal → Type 0
IsWithinLimit limit (Ok found) = IfSome found (λ bytes. length bytes ≤ limit)
IsWithinLimit limit (Err Failed) = ⊤
IsWithinLimit limit (Err (TooLong kept)) = kept ≡ limit
IsWithinLimit limit (Err Memory) = ⊤

-- this holds where a read failed
abbrev pub WhereFailed : Result (Option (List ℕ)) FolderRefusal → Type 0 → Type 0
WhereFailed (Ok found) fact = ⊤
WhereFailed (Err Failed) fact = fact
WhereFailed (Err (TooLong kept)) fact = ⊤
WhereFailed (Err Memory) fact = ⊤

-- whether a read failed
abbrev pub is_failed : Result (Option (List ℕ)) FolderRefusal → Bool
is_failed (Ok found) = false
is_failed (Err Failed) = true
is_failed (Err (TooLong kept)) = false
is_failed (Err Memory) = false

-- a folder's count never falls, and rose where the read failed
pub record HasReadCause (before now : ℕ) (result : Result (Option (List ℕ)) FolderRefusal) : Type 0 where
  pub later : before ≤ now
  pub failed : WhereFailed result (Rose before now)

-- what a write says of the files, where the folder tells
abbrev pub Writes : {T E : Type 0} → Option FileMap → Option FileMap → List ℕ → List ℕ → Result T E → Type 0
Writes None now name bytes result = ⊤
Writes (Some before) None name bytes result = ⊥
Writes (Some before) (Some now) name bytes (Ok x) = Replaces before now name bytes
Writes (Some before) (Some now) name bytes (Err e) = KeepsOthers before now name
