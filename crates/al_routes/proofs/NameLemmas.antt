-- Names in hexadecimal.
use Rattle.std.proofs.Common.{◌≡◌, ◌<◌, ◌≤◌, ◌/◌, ℕ, List, length, arith}
use Rattle.std.proofs.lemmas.List.{length-take}
use Rattle.hex.proofs.HexLemmas.{decode_of-ok}
use Rattle.al_base.specs.Name.{name_of}
use Rattle.al_base.specs.declared.name.BoxName.{BoxName}
use Rattle.al_routes.specs.Texts.{IsName}

-- a name has 1 to 64 bytes
pub name_size : (n : BoxName) → length n.bytes ≡ 64 → (1 ≤ length (name_of n)) × (length (name_of n) ≤ 64)
name_size n whole =
    let some = n.some in
    let short = n.short in
    (omega (arith, length-take n.len n.bytes, some, short, whole), omega (arith, length-take n.len n.bytes, some, short, whole))

-- the text of a name has two digits for each byte
pub name_digits : (text : List ℕ) (n : BoxName) → IsName text n → length text / 2 ≡ length (name_of n)
name_digits text n h = let twice = (decode_of-ok text (name_of n) h.1).2 in omega (arith, twice)

-- a text of another length is no name
pub long_name : (text : List ℕ) → 64 < length text / 2 → (n : BoxName) → IsName text n → ⊥
long_name text long n h =
    let size = name_size n h.0 in
    absurd (omega (arith, name_digits text n h, size.1, long))
