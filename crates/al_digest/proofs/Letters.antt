-- Texts of base32.
use Rattle.std.proofs.Common.{◌≡◌, inl, inr, ℕ, zero, suc, ◌+◌, ◌-◌, ◌*◌, ◌/◌, ◌%◌, ◌^◌, ◌<◌, ◌≤◌, List, [], ◌∷◌, length, get_or, map, refl, sym, ap, ◌∙◌, arith, subst, All}
use Rattle.std.proofs.lemmas.List.{length-map, get_or-map, get_or_push}
use Rattle.std.proofs.lemmas.List.Elements.{All-map, All-head, All-tail, All-weaker}
use Rattle.std.proofs.lemmas.Nat.{mod-pow-add, mod_low, mod_below, shl-shr, shl_below, pow-add, pow_pos}
use Rattle.std.proofs.lemmas.Bool.Decides.{nat_tests}
use Rattle.std.proofs.Math.Nat.{mul-mod_left, pow-zero, pow-suc}
use Rattle.std.specs.Int.Digits.{number_from_digits}
use Rattle.std.proofs.lemmas.Int.Digits.{number_lt}
use Rattle.std.proofs.lemmas.List.Elements.{recursion_from_All}
use Rattle.al_digest.specs.Base32.{digits_in, letter_of, digit_of, IsLetter, letters_for, spare_bits, base32, last_digit}
use Rattle.al_digest.proofs.Digits.{digits_in-suc, length-digits_in, digits_in_below, number_digits_in, digits_in_number}

pub digit-letter : (d : ℕ) → d < 32 → digit_of (letter_of d) ≡ d
digit-letter d small = grind (arith, nat_tests)

pub letter-digit : (c : ℕ) → IsLetter c → letter_of (digit_of c) ≡ c
letter-digit c (inl h) = grind (arith, nat_tests)
letter-digit c (inr h) = grind (arith, nat_tests)

pub letter_is : (d : ℕ) → d < 32 → IsLetter (letter_of d)
letter_is d small = grind (arith, nat_tests)

pub digit_below : (c : ℕ) → IsLetter c → digit_of c < 32
digit_below c (inl h) = grind (arith, nat_tests)
digit_below c (inr h) = grind (arith, nat_tests)

pub letters_back : (text : List ℕ) → All IsLetter text → map letter_of (map digit_of text) ≡ text
letters_back [] all = refl
letters_back (c ∷ cs) all = ap (λ x. x ∷ map letter_of (map digit_of cs)) (letter-digit c (All-head IsLetter c cs all)) ∙ ap (λ xs. c ∷ xs) (letters_back cs (All-tail IsLetter c cs all))

pub digits_back : (ds : List ℕ) → All (λ d. d < 32) ds → map digit_of (map letter_of ds) ≡ ds
digits_back [] all = refl
digits_back (d ∷ ds) all = ap (λ x. x ∷ map digit_of (map letter_of ds)) (digit-letter d (All-head (λ x. x < 32) d ds all)) ∙ ap (λ xs. d ∷ xs) (digits_back ds (All-tail (λ x. x < 32) d ds all))

pub base32-is : (bytes : List ℕ) → base32 bytes ≡ map letter_of (digits_in 32 (letters_for (length bytes)) (number_from_digits 256 bytes * 2 ^ spare_bits (length bytes)))
unfolding base32
base32-is bytes = refl

-- a text of the right length and number is the text
pub text_is : (bytes text : List ℕ) → length text ≡ letters_for (length bytes) → All IsLetter text → number_from_digits 32 (map digit_of text) ≡ number_from_digits 256 bytes * 2 ^ spare_bits (length bytes) → text ≡ base32 bytes
text_is bytes text long all same =
    let ds = map digit_of text in
    let below : All (λ d. d < 32) ds = All-map (λ d. d < 32) digit_of text (All-weaker IsLetter (λ c. digit_of c < 32) digit_below text all) in
    let width : length ds ≡ letters_for (length bytes) = length-map text digit_of ∙ long in
    sym (letters_back text all)
    ∙ ap (map letter_of) (sym (digits_in_number 32 ds below) ∙ ap (λ w. digits_in 32 w (number_from_digits 32 ds)) width ∙ ap (digits_in 32 (letters_for (length bytes))) same)
    ∙ sym (base32-is bytes)

pub base32_letters : (bytes : List ℕ) → All IsLetter (base32 bytes)
base32_letters bytes =
    let n = number_from_digits 256 bytes * 2 ^ spare_bits (length bytes) in
    let w = letters_for (length bytes) in
    subst (All IsLetter) (sym (base32-is bytes)) (All-map IsLetter letter_of (digits_in 32 w n) (All-weaker (λ d. d < 32) (λ d. IsLetter (letter_of d)) letter_is (digits_in 32 w n) (digits_in_below 32 w n (omega arith))))

pub length-base32 : (bytes : List ℕ) → length (base32 bytes) ≡ letters_for (length bytes)
length-base32 bytes =
    let n = number_from_digits 256 bytes * 2 ^ spare_bits (length bytes) in
    let w = letters_for (length bytes) in
    ap length (base32-is bytes) ∙ length-map (digits_in 32 w n) letter_of ∙ length-digits_in 32 w n

digits_of_text : (bytes : List ℕ) → map digit_of (base32 bytes) ≡ digits_in 32 (letters_for (length bytes)) (number_from_digits 256 bytes * 2 ^ spare_bits (length bytes))
digits_of_text bytes =
    let n = number_from_digits 256 bytes * 2 ^ spare_bits (length bytes) in
    let w = letters_for (length bytes) in
    ap (map digit_of) (base32-is bytes) ∙ digits_back (digits_in 32 w n) (digits_in_below 32 w n (omega arith))

-- 2 ^ s bits below 32
low_bits : (m s : ℕ) → s ≤ 5 → m * 2 ^ s % 32 % 2 ^ s ≡ 0
low_bits m s small =
    let whole : (5 - s) + s ≡ 5 = omega arith in
    let split : m * 2 ^ s % 2 ^ ((5 - s) + s) ≡ (m * 2 ^ s / 2 ^ s % 2 ^ (5 - s)) * 2 ^ s + m * 2 ^ s % 2 ^ s = mod-pow-add (m * 2 ^ s) (5 - s) s in
    let none : m * 2 ^ s % 2 ^ s ≡ 0 = mul-mod_left m (2 ^ s) in
    let high = m * 2 ^ s / 2 ^ s % 2 ^ (5 - s) in
    ap (λ k. m * 2 ^ s % 2 ^ k % 2 ^ s) (sym whole)
    ∙ ap (λ k. k % 2 ^ s) split
    ∙ ap (λ k. (high * 2 ^ s + k) % 2 ^ s) none
    ∙ mod_low high s 0 (pow_pos s)

last_of : (w n : ℕ) → last_digit (map letter_of (digits_in 32 (suc w) n)) ≡ n % 32
last_of w n =
    let ds = digits_in 32 w (n / 32) in
    let long : length (map letter_of (digits_in 32 (suc w) n)) - 1 ≡ w = omega (arith, length-map (digits_in 32 (suc w) n) letter_of, length-digits_in 32 (suc w) n) in
    let small : n % 32 < 32 = mod_below n 32 (omega arith) in
    ap (λ k. digit_of (get_or (map letter_of (digits_in 32 (suc w) n)) k 0)) long
    ∙ ap digit_of (get_or-map letter_of (digits_in 32 (suc w) n) w 0 0 (omega (arith, length-digits_in 32 (suc w) n)))
    ∙ ap (λ zs. digit_of (letter_of (get_or zs w 0))) (digits_in-suc 32 w n)
    ∙ ap (λ d. digit_of (letter_of d)) (get_or_push ds (n % 32) 0 w (length-digits_in 32 w (n / 32)))
    ∙ digit-letter (n % 32) small

-- no spare bit of a text is set
pub base32_spare : (bytes : List ℕ) → 0 < length bytes → last_digit (base32 bytes) % 2 ^ spare_bits (length bytes) ≡ 0
base32_spare bytes some =
    let m = number_from_digits 256 bytes in
    let s = spare_bits (length bytes) in
    let w = letters_for (length bytes) in
    let small : s ≤ 5 = omega arith in
    let wide : suc (w - 1) ≡ w = omega arith in
    ap (λ zs. last_digit zs % 2 ^ s) (base32-is bytes ∙ ap (λ k. map letter_of (digits_in 32 k (m * 2 ^ s))) (sym wide))
    ∙ ap (λ d. d % 2 ^ s) (last_of (w - 1) (m * 2 ^ s))
    ∙ low_bits m s small

power_of : (k n : ℕ) → (2 ^ k) ^ n ≡ 2 ^ (k * n)
power_of k zero =
    let none : k * 0 ≡ 0 = omega arith in
    pow-zero (2 ^ k) ∙ sym (pow-zero 2) ∙ ap (λ e. 2 ^ e) (sym none)
power_of k (suc n) =
    let more : k * suc n ≡ k * n + k = omega arith in
    pow-suc (2 ^ k) n ∙ ap (λ m. m * 2 ^ k) (power_of k n) ∙ sym (pow-add 2 (k * n) k) ∙ ap (λ e. 2 ^ e) (sym more)

-- bytes as a number, with the spare bits behind it, fit the letters
fits_letters : (bytes : List ℕ) → All (λ b. b < 256) bytes → number_from_digits 256 bytes * 2 ^ spare_bits (length bytes) < 32 ^ letters_for (length bytes)
fits_letters bytes below =
    let n = length bytes in
    let s = spare_bits n in
    let w = letters_for n in
    let small : number_from_digits 256 bytes < 2 ^ (8 * n) = subst (λ k. number_from_digits 256 bytes < k) (power_of 8 n) (number_lt 256 bytes (recursion_from_All (λ b. b < 256) bytes below)) in
    let whole : 8 * n + s ≡ 5 * w = omega arith in
    subst (λ k. number_from_digits 256 bytes * 2 ^ s < k) (ap (λ e. 2 ^ e) whole ∙ sym (power_of 5 w)) (shl_below (number_from_digits 256 bytes) (8 * n) s small)

-- two lists of as many bytes with one text are one
pub base32_same : (xs ys : List ℕ) → length xs ≡ length ys → All (λ b. b < 256) xs → All (λ b. b < 256) ys → base32 xs ≡ base32 ys → xs ≡ ys
base32_same xs ys long p q same =
    let s = spare_bits (length xs) in
    let w = letters_for (length xs) in
    let m = number_from_digits 256 xs in
    let n = number_from_digits 256 ys in
    let fits : n * 2 ^ s < 32 ^ w = subst (λ k. n * 2 ^ spare_bits k < 32 ^ letters_for k) (sym long) (fits_letters ys q) in
    let digits : digits_in 32 w (m * 2 ^ s) ≡ digits_in 32 w (n * 2 ^ s) =
    sym (digits_of_text xs) ∙ ap (map digit_of) same ∙ digits_of_text ys ∙ ap (λ k. digits_in 32 (letters_for k) (n * 2 ^ spare_bits k)) (sym long) in
    let numbers : m * 2 ^ s ≡ n * 2 ^ s =
    sym (number_digits_in 32 w (m * 2 ^ s) (omega arith) (fits_letters xs p)) ∙ ap (number_from_digits 32) digits ∙ number_digits_in 32 w (n * 2 ^ s) (omega arith) fits in
    let equal : m ≡ n = sym (shl-shr m s) ∙ ap (λ k. k / 2 ^ s) numbers ∙ shl-shr n s in
    sym (digits_in_number 256 xs p) ∙ ap (λ k. digits_in 256 (length xs) k) equal ∙ ap (λ k. digits_in 256 k n) long ∙ digits_in_number 256 ys q
