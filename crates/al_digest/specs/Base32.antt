-- Base32 without padding, as RFC 4648 defines it: the bits of the bytes, most significant first and with zero bits behind the
-- last byte, in groups of five, each group as one letter. So the text is a number's digits in base 32: the number that the bytes
-- spell in base 256, with the spare bits behind it.
use Rattle.std.specs.Prelude.{ℕ, zero, suc, ◌⊎◌, ◌+◌, ◌-◌, ◌*◌, ◌/◌, ◌%◌, ◌^◌, ◌≤◌, ◌<◌, List, [], ◌∷◌, ◌++◌, length, map, take, get_or, nat_lt, if◌then◌else◌, All}
use Rattle.std.specs.Int.Digits.{number_from_digits}

-- 0 to 25 are A to Z, 26 to 31 are 2 to 7
abbrev pub letter_of : ℕ → ℕ
letter_of digit = if nat_lt digit 26 then 65 + digit else 24 + digit

-- A to Z and 2 to 7
abbrev pub IsLetter : ℕ → Type 0
IsLetter c = ((65 ≤ c) × (c ≤ 90)) ⊎ ((50 ≤ c) × (c ≤ 55))

-- the digit that a letter stands for
abbrev pub digit_of : ℕ → ℕ
digit_of letter = if nat_lt letter 65 then letter - 24 else letter - 65

-- the lowest `places` digits of a number in a base, the highest of them first
unfoldable pub digits_in : ℕ → ℕ → ℕ → List ℕ
digits_in base zero n = []
digits_in base (suc places) n = digits_in base places (n / base) ++ (n % base ∷ [])

-- how many letters n bytes need
abbrev pub letters_for : ℕ → ℕ
letters_for n = (8 * n + 4) / 5

-- how many bits of those letters no byte fills
abbrev pub spare_bits : ℕ → ℕ
spare_bits n = 5 * letters_for n - 8 * n

-- the text of bytes
unfoldable pub base32 : List ℕ → List ℕ
base32 bytes = map letter_of (digits_in 32 (letters_for (length bytes)) (number_from_digits 256 bytes * 2 ^ spare_bits (length bytes)))

-- the place of the first byte that is no letter
abbrev pub IsFirstOther : List ℕ → ℕ → Type 0
IsFirstOther text at = (at < length text) × (IsLetter (get_or text at 0) → ⊥) × All IsLetter (take at text)

-- the digit of the last letter
abbrev pub last_digit : List ℕ → ℕ
last_digit text = digit_of (get_or text (length text - 1) 0)
