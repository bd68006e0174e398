-- What is read of a text of base32.
use Rattle.std.specs.Prelude.{ℕ, ◌≡◌, ◌≢◌, ◌%◌, ◌^◌, List, length, Result, Ok, Err, All}
use Rattle.al_digest.specs.declared.texts.TextFault.{TextFault}
use Rattle.al_digest.specs.declared.texts.TextFault.TheVariants.{Length, Letter, SpareBits, Check}
use Rattle.al_digest.specs.Base32.{base32, IsLetter, IsFirstOther, last_digit, spare_bits}

-- the bytes whose text it is, or what is wrong with it
abbrev pub Decodes : {A : Type 0} → List ℕ → List ℕ → Result A TextFault → Type 0
Decodes text bytes (Ok x) = text ≡ base32 bytes
Decodes text bytes (Err (Letter at)) = IsFirstOther text at
Decodes text bytes (Err SpareBits) = All IsLetter text × (last_digit text % 2 ^ spare_bits (length bytes) ≢ 0)
Decodes text bytes (Err (Length found)) = ⊥
Decodes text bytes (Err Check) = ⊥
