-- The texts of base32 are ASCII.
use Rattle.std.proofs.Common.{◌≤◌, ◌<◌, ◌⊎◌, inl, inr, ℕ, List, length, get_or, arith, All}
use Rattle.std.proofs.lemmas.List.{get_or_past}
use Rattle.std.proofs.lemmas.List.Elements.{All-get_or}
use Rattle.std.proofs.lemmas.Str.{IsUtf8-from_ascii}
use Rattle.std.specs.Str.{IsUtf8}
use Rattle.al_digest.specs.Base32.{base32, IsLetter}
use Rattle.al_digest.proofs.Letters.{base32_letters}

letter_below : (c : ℕ) → IsLetter c → c < 128
letter_below c (inl h) = omega (arith, h)
letter_below c (inr h) = omega (arith, h)

cases : (i n : ℕ) → (i < n) ⊎ (n ≤ i)
cases i n = grind arith

ascii : (xs : List ℕ) → All IsLetter xs → (i : ℕ) → get_or xs i 0 < 128
ascii xs all i = by_place (cases i (length xs))
  where
    by_place : (i < length xs) ⊎ (length xs ≤ i) → get_or xs i 0 < 128
    by_place (inl l) = letter_below (get_or xs i 0) (All-get_or IsLetter xs i 0 l all)
    by_place (inr past) = omega (arith, get_or_past xs i 0 past)

pub IsUtf8-base32 : (bytes : List ℕ) → IsUtf8 (base32 bytes)
IsUtf8-base32 bytes = IsUtf8-from_ascii (base32 bytes) (ascii (base32 bytes) (base32_letters bytes))
