-- Rounds in decimal.
use Rattle.std.proofs.Common.{◌≡◌, ◌≤◌, ◌<◌, ◌+◌, ◌*◌, ◌-◌, ◌^◌, ◌⊎◌, inl, inr, ℕ, true, false, List, length, min, take, get_or, sym, ap, ◌∙◌, arith, subst, rules}
use Rattle.std.proofs.lemmas.Bool.Decides.{nat_tests}
use Rattle.std.proofs.lemmas.Fmt.{digits_decimal, digits_value-decimal, decimal-digits_value, decimal_nonempty, first_decimal, decimal_digit}
use Rattle.std.proofs.lemmas.Int.Digits.{digits_value_more}
use Rattle.std.proofs.lemmas.List.{take_all}
use Rattle.std.proofs.lemmas.Str.Parse.{IsNumeralModel, numerals_by_value, tells_by_index, digits_value-take-le}
use Rattle.std.specs.Char.{is_ascii_digit}
use Rattle.std.specs.Fmt.{decimal}
use Rattle.std.specs.Int.{IsInRange}
use Rattle.std.specs.Str.Parse.{digits_value}
use Rattle.std.specs.Char.{digit_value}
use Rattle.al_catch.specs.Labels.{IsRoundText}
use Rattle.std.proofs.lemmas.Str.{digit_value_digit}

digit_is : (c : ℕ) → is_ascii_digit c ≡ true → digit_value c + 48 ≡ c
digit_is c is = digit_value_digit c (search (rules, is))

abbrev pub AreDigits : List ℕ → Type 0
AreDigits ds = (i : ℕ) → i < length ds → IsInRange 48 57 (get_or ds i 0)

own : IsNumeralModel AreDigits (digits_value 10)
own = numerals_by_value AreDigits tells_by_index

fits : (n : ℕ) → n ≤ 2 ^ 62 → n < 2 ^ 64
fits n most = omega (arith, most)

pub decimal_digits : (n : ℕ) → n ≤ 2 ^ 62 → AreDigits (decimal n)
decimal_digits n most = digits_decimal own n (fits n most)

pub digits_of : (n : ℕ) → n < 2 ^ 64 → AreDigits (decimal n)
digits_of n low = digits_decimal own n low

pub digit_in_range : (c : ℕ) → is_ascii_digit c ≡ true → IsInRange 48 57 c
digit_in_range c is = grind (arith, nat_tests)

pub other_not_in_range : (c : ℕ) → is_ascii_digit c ≡ false → IsInRange 48 57 c → ⊥
other_not_in_range c is range = grind (arith, nat_tests)

-- one more digit
pub digits_below : (text : List ℕ) (i : ℕ) → ((k : ℕ) → k < i → IsInRange 48 57 (get_or text k 0)) → is_ascii_digit (get_or text i 0) ≡ true → (k : ℕ) → k < i + 1 → IsInRange 48 57 (get_or text k 0)
digits_below text i below is k l = by_place (cases k i l)
  where
    cases : (k i : ℕ) → k < i + 1 → (k < i) ⊎ (k ≡ i)
    cases k i l = grind arith

    by_place : (k < i) ⊎ (k ≡ i) → IsInRange 48 57 (get_or text k 0)
    by_place (inl h) = below k h
    by_place (inr e) = subst (λ j. IsInRange 48 57 (get_or text j 0)) (sym e) (digit_in_range (get_or text i 0) is)

pub number_more : (text : List ℕ) (i n m : ℕ) → i < length text → is_ascii_digit (get_or text i 0) ≡ true → n ≡ digits_value 10 (take i text) → m ≡ min (n * 10 + (get_or text i 0 - 48)) (2 ^ 64 - 1) → m ≤ 2 ^ 62 → m ≡ digits_value 10 (take (i + 1) text)
number_more text i n m l is value step most =
    let digit = digit_is (get_or text i 0) is in
    omega (arith, digits_value_more 10 text i l, value, step, most, digit)

-- all digits are read
pub number_read : (text : List ℕ) (i n : ℕ) → length text ≤ i → 0 < length text → (get_or text 0 0 ≡ 48 → ⊥) → ((k : ℕ) → k < i → IsInRange 48 57 (get_or text k 0)) → n ≤ 2 ^ 62 → n ≡ digits_value 10 (take i text) → (1 ≤ n) × (n ≤ 2 ^ 62) × (text ≡ decimal n)
number_read text i n end some lead below most value = (by_number (cases n), most, is)
  where
    whole : n ≡ digits_value 10 text
    whole = value ∙ ap (digits_value 10) (take_all i text end)

    is : text ≡ decimal n
    is = sym (decimal-digits_value own text (λ k l. below k (omega (arith, l, end))) some (λ zero. absurd (lead zero)) (omega (arith, whole, most))) ∙ ap decimal (sym whole)

    cases : (n : ℕ) → (n ≡ 0) ⊎ (1 ≤ n)
    cases n = grind arith

    by_number : (n ≡ 0) ⊎ (1 ≤ n) → 1 ≤ n
    by_number (inl e) = absurd (lead (ap (λ ds. get_or ds 0 0) (is ∙ ap decimal e ∙ decimal_digit 0 (omega arith))))
    by_number (inr some) = some

pub not_empty : (text : List ℕ) → length text ≡ 0 → (n : ℕ) → IsRoundText text n → ⊥
not_empty text none n (some, most, is) = absurd (omega (arith, decimal_nonempty n (fits n most), ap length is, none))

pub no_leading_zero : (text : List ℕ) → get_or text 0 0 ≡ 48 → (n : ℕ) → IsRoundText text n → ⊥
no_leading_zero text zero n (some, most, is) = absurd (omega (arith, zero, ap (λ ds. get_or ds 0 0) is, first_decimal n (omega (arith, some)) (fits n most)))

pub no_other_byte : (text : List ℕ) (i n : ℕ) → i < length text → is_ascii_digit (get_or text i 0) ≡ false → n ≤ 2 ^ 62 → text ≡ decimal n → ⊥
no_other_byte text i n l not most is =
    let digits : AreDigits text = subst AreDigits (sym is) (digits_decimal own n (fits n most)) in
    other_not_in_range (get_or text i 0) not (digits i l)

pub no_larger : (text : List ℕ) (i n m most_n : ℕ) → i < length text → is_ascii_digit (get_or text i 0) ≡ true → n ≡ digits_value 10 (take i text) → m ≡ min (n * 10 + (get_or text i 0 - 48)) (2 ^ 64 - 1) → 2 ^ 62 < m → most_n ≤ 2 ^ 62 → text ≡ decimal most_n → ⊥
no_larger text i n m k l is value step large most whole =
    let digit = digit_is (get_or text i 0) is in
    let all : digits_value 10 text ≡ k = ap (digits_value 10) whole ∙ digits_value-decimal own k (fits k most) in
    absurd (omega (arith, digits_value_more 10 text i l, value, step, large, digit, digits_value-take-le 10 text (i + 1) (omega arith), all, most))
