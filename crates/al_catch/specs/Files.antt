-- The names of the files of a catchpoint.
use Rattle.std.specs.Prelude.{◌≡◌, ◌<◌, ◌^◌, ℕ, List, ◌++◌, codes}
use Rattle.std.specs.Fmt.{decimal}
use Rattle.al_catch.specs.declared.files.CatchFile.{CatchFile}
use Rattle.al_catch.specs.declared.files.CatchFile.TheVariants as file

-- what stands behind the round and its dash
abbrev pub part_of : CatchFile → List ℕ
part_of (file.Rows k) = codes "rows-" ++ decimal k
part_of file.Info = codes "info"
part_of (file.Block n) = codes "block-" ++ decimal n
part_of file.Label = codes "label"

-- the name of a file in the catchpoint of a round
abbrev pub name_of : ℕ → CatchFile → List ℕ
name_of round f = codes "cp-" ++ (decimal round ++ (codes "-" ++ part_of f))

-- the number in a file's name has 64 bits
abbrev pub IsFile : CatchFile → Type 0
IsFile (file.Rows k) = k < 2 ^ 64
IsFile file.Info = Unit {0}
IsFile (file.Block n) = n < 2 ^ 64
IsFile file.Label = Unit {0}

-- different files of one round have different names
abbrev pub HaveOwnNames : Type 0
HaveOwnNames = (round : ℕ) (f g : CatchFile) → IsFile f → IsFile g → name_of round f ≡ name_of round g → f ≡ g

-- and so have files of different rounds, of 64 bits each
abbrev pub HaveOwnFiles : Type 0
HaveOwnFiles = (r s : ℕ) (f g : CatchFile) → r < 2 ^ 64 → s < 2 ^ 64 → IsFile f → IsFile g → name_of r f ≡ name_of s g → (r ≡ s) × (f ≡ g)
