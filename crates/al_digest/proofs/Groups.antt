-- The steps of writing and of reading a text, on numbers: the digits that are written, and the bits that wait.
use Rattle.std.proofs.Common.{◌≡◌, ◌≢◌, ◌⊎◌, inl, inr, ℕ, ◌+◌, ◌-◌, ◌*◌, ◌/◌, ◌%◌, ◌^◌, ◌<◌, ◌≤◌, List, [], ◌∷◌, ◌++◌, length, take, set, get_or, map, refl, sym, ap, ◌∙◌, arith, subst, All}
use Rattle.std.proofs.lemmas.List.{take_at, take_all, map_push, length_push, get_or_append_left, get_or_at, get_or_past, take_more_set, map_more, length-map, get_or-map}
use Rattle.std.proofs.lemmas.List.Elements.{All-push}
use Rattle.std.proofs.lemmas.Nat.{pow-add, shr_high, shl-shr, mod_low}
use Rattle.std.proofs.Math.Nat.{add-mul-mod_self_right}
use Rattle.std.specs.Int.Digits.{number_from_digits}
use Rattle.std.proofs.lemmas.Int.Digits.{number_more, number_push}
use Rattle.al_digest.specs.Base32.{letter_of, digit_of, IsLetter, letters_for, spare_bits, base32, last_digit}
use Rattle.al_digest.proofs.Letters.{digit-letter, letter_is, text_is}

-- more bits wait
pub more_wait : (t value count width low n : ℕ) → t * 2 ^ count + value ≡ n → t * 2 ^ (count + width) + (value * 2 ^ width + low) ≡ n * 2 ^ width + low
more_wait t value count width low n is =
    let p : t * 2 ^ (count + width) ≡ t * (2 ^ count * 2 ^ width) = ap (λ k. t * k) (pow-add 2 count width) in
    let q : (t * 2 ^ count + value) * 2 ^ width ≡ n * 2 ^ width = ap (λ k. k * 2 ^ width) is in
    omega arith

-- the highest of them go
pub high_goes : (t value count width high rest left n : ℕ) → t * 2 ^ count + value ≡ n → left + width ≡ count → high * 2 ^ left + rest ≡ value → (t * 2 ^ width + high) * 2 ^ left + rest ≡ n
high_goes t value count width high rest left n is whole split =
    let p : t * 2 ^ count ≡ t * (2 ^ left * 2 ^ width) = ap (λ k. t * 2 ^ k) (sym whole) ∙ ap (λ k. t * k) (pow-add 2 left width) in
    omega arith

-- the number of the first k bytes, with a zero byte behind the last
abbrev pub front_number : List ℕ → ℕ → ℕ
front_number bytes k = number_from_digits 256 (take k (bytes ++ 0 ∷ []))

pub front_number-more : (bytes : List ℕ) (k : ℕ) → k ≤ length bytes → front_number bytes (k + 1) ≡ front_number bytes k * 256 + get_or bytes k 0
front_number-more bytes k fits =
    let long : length (bytes ++ 0 ∷ []) ≡ length bytes + 1 = length_push bytes 0 in
    number_more 256 (bytes ++ 0 ∷ []) k (omega arith) ∙ ap (λ b. front_number bytes k * 256 + b) (by_place (cases_order k (length bytes) fits))
  where
    cases_order : (m n : ℕ) → m ≤ n → (m < n) ⊎ (m ≡ n)
    cases_order m n h = grind arith

    by_place : (k < length bytes) ⊎ (k ≡ length bytes) → get_or (bytes ++ 0 ∷ []) k 0 ≡ get_or bytes k 0
    by_place (inl l) = get_or_append_left bytes (0 ∷ []) 0 k l
    by_place (inr e) = get_or_at bytes 0 [] 0 k (sym e) ∙ sym (get_or_past bytes k 0 (omega arith))

-- one more letter
pub letters-more : (text : List ℕ) (i d : ℕ) → i < length text → d < 32 → All IsLetter (take i text) → All IsLetter (take (i + 1) (set text i (letter_of d)))
letters-more text i d l small all = subst (All IsLetter) (sym (take_more_set text i (letter_of d) l)) (All-push IsLetter (take i text) (letter_of d) all (letter_is d small))

pub number-more : (text : List ℕ) (i d : ℕ) → i < length text → d < 32 → number_from_digits 32 (map digit_of (take (i + 1) (set text i (letter_of d)))) ≡ number_from_digits 32 (map digit_of (take i text)) * 32 + d
number-more text i d l small =
    ap (λ zs. number_from_digits 32 (map digit_of zs)) (take_more_set text i (letter_of d) l)
    ∙ ap (number_from_digits 32) (map_push digit_of (take i text) (letter_of d))
    ∙ number_push 32 (map digit_of (take i text)) (digit_of (letter_of d))
    ∙ ap (λ k. number_from_digits 32 (map digit_of (take i text)) * 32 + k) (digit-letter d small)

-- of the number T 2^c + v, where v is below 2^c
high_of : (t count value m : ℕ) → value < 2 ^ count → t * 2 ^ count + value ≡ m * 2 ^ count → t ≡ m
high_of t count value m fits is = sym (shr_high t count value fits) ∙ ap (λ k. k / 2 ^ count) is ∙ shl-shr m count

-- all letters are written
pub written : (bytes text : List ℕ) (next count value : ℕ) → length text ≡ letters_for (length bytes) → All IsLetter text → 5 * length text + count ≡ 8 * next → count < 8 → value < 2 ^ count
    → number_from_digits 32 (map digit_of text) * 2 ^ count + value ≡ front_number bytes next → text ≡ base32 bytes
written bytes text next count value long all places few fits is = text_is bytes text long all (by_place (cases next (length bytes) (omega arith) (omega arith)))
  where
    cases : (k n : ℕ) → n ≤ k → k ≤ n + 1 → (k ≡ n) ⊎ (k ≡ n + 1)
    cases k n low high = grind arith

    m : ℕ
    m = number_from_digits 256 bytes

    s : ℕ
    s = spare_bits (length bytes)

    front : take (length bytes) (bytes ++ 0 ∷ []) ≡ bytes
    front = take_at bytes (0 ∷ []) (length bytes) refl

    by_place : (next ≡ length bytes) ⊎ (next ≡ length bytes + 1) → number_from_digits 32 (map digit_of text) ≡ number_from_digits 256 bytes * 2 ^ spare_bits (length bytes)
    by_place (inl e) =
        let none : count ≡ s = omega arith in
        let zero_bits : s ≡ 0 = omega arith in
        let number : front_number bytes next ≡ m = ap (front_number bytes) e ∙ ap (number_from_digits 256) front in
        let one : m ≡ m * 2 ^ s = omega (arith, ap (λ k. m * 2 ^ k) zero_bits) in
        let whole : m * 2 ^ s ≡ m * 2 ^ s * 2 ^ count = omega (arith, ap (λ k. m * 2 ^ s * 2 ^ k) (none ∙ zero_bits)) in
        high_of (number_from_digits 32 (map digit_of text)) count value (m * 2 ^ s) fits (is ∙ number ∙ one ∙ whole)
    by_place (inr e) =
        let bits : s + count ≡ 8 = omega arith in
        let number : front_number bytes next ≡ m * 256 = ap (front_number bytes) e ∙ front_number-more bytes (length bytes) (omega arith) ∙ omega (arith, ap (number_from_digits 256) front, get_or_past bytes (length bytes) 0 (omega arith)) in
        let whole : m * 256 ≡ m * 2 ^ s * 2 ^ count = omega (arith, ap (λ k. m * k) (ap (λ k. 2 ^ k) (sym bits) ∙ pow-add 2 s count)) in
        high_of (number_from_digits 32 (map digit_of text)) count value (m * 2 ^ s) fits (is ∙ number ∙ whole)

-- the bits that wait, where no byte fills them, are those of the last letter
spare_of : (text : List ℕ) (t count value : ℕ) → 0 < length text → count ≤ 5 → value < 2 ^ count → t * 2 ^ count + value ≡ number_from_digits 32 (map digit_of text) → last_digit text % 2 ^ count ≡ value
spare_of text t count value some few fits is =
    let i = length text - 1 in
    let m = number_from_digits 32 (take i (map digit_of text)) in
    let d = last_digit text in
    let long : length (map digit_of text) ≡ length text = length-map text digit_of in
    let one : i + 1 ≡ length (map digit_of text) = omega arith in
    let number : number_from_digits 32 (map digit_of text) ≡ m * 32 + d =
    ap (number_from_digits 32) (sym (take_all (i + 1) (map digit_of text) (omega arith)))
    ∙ number_more 32 (map digit_of text) i (omega arith)
    ∙ ap (λ k. m * 32 + k) (get_or-map digit_of text i 0 0 (omega arith)) in
    let bits : 5 - count + count ≡ 5 = omega arith in
    let split : 32 ≡ 2 ^ (5 - count) * 2 ^ count = ap (λ k. 2 ^ k) (sym bits) ∙ pow-add 2 (5 - count) count in
    let joined : m * 32 + d ≡ d + m * 2 ^ (5 - count) * 2 ^ count = omega (arith, ap (λ k. m * k) split) in
    sym (add-mul-mod_self_right d (m * 2 ^ (5 - count)) (2 ^ count))
    ∙ ap (λ k. k % 2 ^ count) (sym joined ∙ sym number ∙ sym is)
    ∙ mod_low t count value fits

-- all letters are read
pub read_all : (text bytes : List ℕ) (next count value : ℕ) → length text ≡ letters_for (length bytes) → next ≤ length bytes → 5 * length text ≡ 8 * next + count → count < 8 → (next ≡ length bytes) × (count ≡ spare_bits (length bytes))
read_all text bytes next count value long fits places few = (omega arith, omega arith)

pub read_text : (text bytes : List ℕ) (next count value : ℕ) → length text ≡ letters_for (length bytes) → next ≤ length bytes → 5 * length text ≡ 8 * next + count → count < 8 → All IsLetter text
    → number_from_digits 256 (take next bytes) * 2 ^ count + value ≡ number_from_digits 32 (map digit_of text) → value ≡ 0 → text ≡ base32 bytes
read_text text bytes next count value long fits places few all is none =
    let at = read_all text bytes next count value long fits places few in
    let whole : take next bytes ≡ bytes = take_all next bytes (omega arith) in
    text_is bytes text long all (sym is ∙ omega (arith, none) ∙ ap (λ zs. number_from_digits 256 zs * 2 ^ count) whole ∙ ap (λ k. number_from_digits 256 bytes * 2 ^ k) at.1)

pub read_spare : (text bytes : List ℕ) (next count value : ℕ) → length text ≡ letters_for (length bytes) → next ≤ length bytes → 5 * length text ≡ 8 * next + count → count < 8 → value < 2 ^ count
    → number_from_digits 256 (take next bytes) * 2 ^ count + value ≡ number_from_digits 32 (map digit_of text) → value ≢ 0 → last_digit text % 2 ^ spare_bits (length bytes) ≢ 0
read_spare text bytes next count value long fits places few small is some none =
    let at = read_all text bytes next count value long fits places few in
    let long_enough : 0 < length text = by_length (cases_zero (length text)) in
    some (sym (spare_of text (number_from_digits 256 (take next bytes)) count value long_enough (omega arith) small is) ∙ ap (λ k. last_digit text % 2 ^ k) at.1 ∙ none)
  where
    cases_zero : (k : ℕ) → (k ≡ 0) ⊎ (0 < k)
    cases_zero k = grind arith

    by_length : (length text ≡ 0) ⊎ (0 < length text) → 0 < length text
    by_length (inr h) = h
    by_length (inl e) =
        let bits : count ≡ 0 = omega arith in
        let low : value < 1 = subst (λ k. value < 2 ^ k) bits small in
        absurd (some (omega arith))

-- one more letter is read
pub digits-more : (text : List ℕ) (i : ℕ) → i < length text → number_from_digits 32 (map digit_of (take (i + 1) text)) ≡ number_from_digits 32 (map digit_of (take i text)) * 32 + digit_of (get_or text i 0)
digits-more text i l = ap (number_from_digits 32) (map_more digit_of text i 0 l) ∙ number_push 32 (map digit_of (take i text)) (digit_of (get_or text i 0))

-- one more byte is written
pub bytes-more : (bytes : List ℕ) (i b : ℕ) → i < length bytes → number_from_digits 256 (take (i + 1) (set bytes i b)) ≡ number_from_digits 256 (take i bytes) * 256 + b
bytes-more bytes i b l = ap (number_from_digits 256) (take_more_set bytes i b l) ∙ number_push 256 (take i bytes) b

-- a byte comes to the bits that wait
pub filled : (bytes : List ℕ) (t value count value' count' next next' b : ℕ) → t * 2 ^ count + value ≡ front_number bytes next → next ≤ length bytes → count' ≡ count + 8 → value' ≡ value * 256 + b → next' ≡ next + 1 → b ≡ get_or bytes next 0
    → t * 2 ^ count' + value' ≡ front_number bytes next'
filled bytes t value count value' count' next next' b is fits more low step at =
    ap (λ k. t * 2 ^ k + value') more
    ∙ ap (λ k. t * 2 ^ (count + 8) + k) low
    ∙ more_wait t value count 8 b (front_number bytes next) is
    ∙ ap (λ k. front_number bytes next * 256 + k) at
    ∙ sym (front_number-more bytes next fits)
    ∙ ap (front_number bytes) (sym step)

-- a letter goes
pub letter_goes : (text : List ℕ) (i high value count rest left n : ℕ) → i < length text → high < 32 → number_from_digits 32 (map digit_of (take i text)) * 2 ^ count + value ≡ n → left + 5 ≡ count → high * 2 ^ left + rest ≡ value
    → number_from_digits 32 (map digit_of (take (i + 1) (set text i (letter_of high)))) * 2 ^ left + rest ≡ n
letter_goes text i high value count rest left n l small is whole split =
    ap (λ k. k * 2 ^ left + rest) (number-more text i high l small)
    ∙ high_goes (number_from_digits 32 (map digit_of (take i text))) value count 5 high rest left n is whole split

-- a letter comes
pub letter_comes : (text : List ℕ) (t value count value' count' i d : ℕ) → i < length text → t * 2 ^ count + value ≡ number_from_digits 32 (map digit_of (take i text)) → count' ≡ count + 5 → value' ≡ value * 32 + d → d ≡ digit_of (get_or text i 0)
    → t * 2 ^ count' + value' ≡ number_from_digits 32 (map digit_of (take (i + 1) text))
letter_comes text t value count value' count' i d l is more low at =
    ap (λ k. t * 2 ^ k + value') more
    ∙ ap (λ k. t * 2 ^ (count + 5) + k) low
    ∙ more_wait t value count 5 d (number_from_digits 32 (map digit_of (take i text))) is
    ∙ ap (λ k. number_from_digits 32 (map digit_of (take i text)) * 32 + k) at
    ∙ sym (digits-more text i l)

-- a byte goes
pub byte_goes : (bytes : List ℕ) (i high value count rest left n : ℕ) → i < length bytes → number_from_digits 256 (take i bytes) * 2 ^ count + value ≡ n → left + 8 ≡ count → high * 2 ^ left + rest ≡ value
    → number_from_digits 256 (take (i + 1) (set bytes i high)) * 2 ^ left + rest ≡ n
byte_goes bytes i high value count rest left n l is whole split =
    ap (λ k. k * 2 ^ left + rest) (bytes-more bytes i high l)
    ∙ high_goes (number_from_digits 256 (take i bytes)) value count 8 high rest left n is whole split

pub bytes_below : (bytes : List ℕ) (i b : ℕ) → i < length bytes → All (λ x. x < 256) (take i bytes) → b < 256 → All (λ x. x < 256) (take (i + 1) (set bytes i b))
bytes_below bytes i b l below small = subst (All (λ x. x < 256)) (sym (take_more_set bytes i b l)) (All-push (λ x. x < 256) (take i bytes) b below small)
