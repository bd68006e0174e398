-- The one spelling of a value, as a function.
use Rattle.std.specs.Prelude.{ℕ, ◌+◌, ◌%◌, ◌^◌, ◌≡◌, Bool, List, [], ◌∷◌, ◌++◌, length, map, take, if◌then◌else◌, nat_lt}
use Rattle.al_msgpack.specs.declared.val.Val.{Val, fold-Val}
use Rattle.al_msgpack.specs.declared.val.Val.TheOpen.{Val-F, Entry-F}
use Rattle.al_msgpack.specs.declared.val.Entry.{Entry, fold-Entry}
use Rattle.al_msgpack.specs.Grammar.{digits}

abbrev pub num_spelled : ℕ → List ℕ
num_spelled n = if nat_lt n 128 then n ∷ [] else if nat_lt n 0x100 then 0xcc ∷ digits 1 n else if nat_lt n 0x10000 then 0xcd ∷ digits 2 n else if nat_lt n 0x100000000 then 0xce ∷ digits 4 n else 0xcf ∷ digits 8 n

abbrev pub string_head : ℕ → List ℕ
string_head n = if nat_lt n 32 then (0xa0 + n) ∷ [] else if nat_lt n 0x100 then 0xd9 ∷ digits 1 n else if nat_lt n 0x10000 then 0xda ∷ digits 2 n else 0xdb ∷ digits 4 (n % 2 ^ 32)

abbrev pub bytes_head : ℕ → List ℕ
bytes_head n = if nat_lt n 0x100 then 0xc4 ∷ digits 1 n else if nat_lt n 0x10000 then 0xc5 ∷ digits 2 n else 0xc6 ∷ digits 4 (n % 2 ^ 32)

abbrev pub list_head : ℕ → List ℕ
list_head n = if nat_lt n 16 then (0x90 + n) ∷ [] else if nat_lt n 0x10000 then 0xdc ∷ digits 2 n else 0xdd ∷ digits 4 (n % 2 ^ 32)

abbrev pub map_head : ℕ → List ℕ
map_head n = if nat_lt n 16 then (0x80 + n) ∷ [] else if nat_lt n 0x10000 then 0xde ∷ digits 2 n else 0xdf ∷ digits 4 (n % 2 ^ 32)

abbrev pub flag_spelled : Bool → List ℕ
flag_spelled flag = (if flag then 0xc3 else 0xc2) ∷ []

abbrev pub joined : List (List ℕ) → List ℕ
joined [] = []
joined (x ∷ xs) = x ++ joined xs

-- a key and the spelling of its value
abbrev pub joined_entries : List (List ℕ × List ℕ) → List ℕ
joined_entries [] = []
joined_entries (e ∷ es) = (string_head (length e.0) ++ e.0) ++ (e.1 ++ joined_entries es)

abbrev pub entry_step : Entry-F (List ℕ) (List ℕ × List ℕ) → List ℕ × List ℕ
entry_step e = (e.key, e.val)

abbrev pub spelled_step : Val-F (List ℕ) (List ℕ × List ℕ) → List ℕ
spelled_step (Val-F.Num n) = num_spelled n
spelled_step (Val-F.Flag flag) = flag_spelled flag
spelled_step (Val-F.Str s) = string_head (length s) ++ s
spelled_step (Val-F.Bin s) = bytes_head (length s) ++ s
spelled_step (Val-F.List items) = list_head (length items) ++ joined items
spelled_step (Val-F.Map entries) = map_head (length entries) ++ joined_entries entries

abbrev pub spelled : Val → List ℕ
spelled = fold-Val (List ℕ) (List ℕ × List ℕ) spelled_step entry_step

abbrev pub all_spelled : List Val → List ℕ
all_spelled vs = joined (map spelled vs)

abbrev pub entries_spelled : List Entry → List ℕ
entries_spelled es = joined_entries (map (fold-Entry (List ℕ) (List ℕ × List ℕ) spelled_step entry_step) es)

-- what stood in an output still stands in front
abbrev pub IsFront : List ℕ → List ℕ → Type 0
IsFront before now = take (length before) now ≡ before
