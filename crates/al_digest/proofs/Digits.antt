-- Digits of a number in a base, so many of them.
use Rattle.std.proofs.Common.{◌≡◌, ℕ, zero, suc, ◌+◌, ◌*◌, ◌/◌, ◌%◌, ◌^◌, ◌<◌, ◌≤◌, List, [], ◌∷◌, ◌++◌, length, take, get_or, refl, sym, ap, ◌∙◌, arith, subst, length-append, All}
use Rattle.std.proofs.lemmas.List.{take_more, take_all}
use Rattle.std.proofs.lemmas.List.Elements.{All-nil, All-push, All-get_or}
use Rattle.std.proofs.lemmas.Nat.{div-mul-add, mod-mul-add, div-add-mod', div_below, mod_below}
use Rattle.std.proofs.Math.Nat.{pow-suc, pow-zero}
use Rattle.std.specs.Int.Digits.{number_from_digits}
use Rattle.std.proofs.lemmas.Int.Digits.{number_more, number_push}
use Rattle.al_digest.specs.Base32.{digits_in}

pub digits_in-suc : (b w n : ℕ) → digits_in b (suc w) n ≡ digits_in b w (n / b) ++ (n % b ∷ [])
unfolding digits_in
digits_in-suc b w n = refl

pub digits_in-zero : (b n : ℕ) → digits_in b zero n ≡ []
unfolding digits_in
digits_in-zero b n = refl

pub length-digits_in : (b w n : ℕ) → length (digits_in b w n) ≡ w
length-digits_in b zero n = ap length (digits_in-zero b n)
length-digits_in b (suc w) n = ap length (digits_in-suc b w n) ∙ length-append (digits_in b w (n / b)) (n % b ∷ []) ∙ omega (arith, length-digits_in b w (n / b))

pub digits_in_below : (b w n : ℕ) → 0 < b → All (λ d. d < b) (digits_in b w n)
digits_in_below b zero n some = subst (All (λ d. d < b)) (sym (digits_in-zero b n)) (All-nil (λ d. d < b))
digits_in_below b (suc w) n some = subst (All (λ d. d < b)) (sym (digits_in-suc b w n)) (All-push (λ d. d < b) (digits_in b w (n / b)) (n % b) (digits_in_below b w (n / b) some) (mod_below n b some))

-- the number of a number's digits
pub number_digits_in : (b w n : ℕ) → 0 < b → n < b ^ w → number_from_digits b (digits_in b w n) ≡ n
number_digits_in b zero n some small = let none : n ≡ 0 = omega (arith, small, pow-zero b) in ap (number_from_digits b) (digits_in-zero b n) ∙ sym none
number_digits_in b (suc w) n some small =
    let less : n / b < b ^ w = div_below n b (b ^ w) some (omega (arith, small, pow-suc b w)) in
    ap (number_from_digits b) (digits_in-suc b w n)
    ∙ number_push b (digits_in b w (n / b)) (n % b)
    ∙ ap (λ m. m * b + n % b) (number_digits_in b w (n / b) some less)
    ∙ div-add-mod' n b

-- the digits of the number that digits spell
front_digits : (b : ℕ) (ds : List ℕ) (i : ℕ) → All (λ d. d < b) ds → i ≤ length ds → digits_in b i (number_from_digits b (take i ds)) ≡ take i ds
front_digits b ds zero below fits = digits_in-zero b (number_from_digits b (take zero ds))
front_digits b ds (suc i) below fits =
    let d = get_or ds i 0 in
    let m = number_from_digits b (take i ds) in
    let less : d < b = All-get_or (λ x. x < b) ds i 0 (omega arith) below in
    let one : suc i ≡ i + 1 = omega arith in
    let more : number_from_digits b (take (suc i) ds) ≡ m * b + d = ap (λ k. number_from_digits b (take k ds)) one ∙ number_more b ds i (omega arith) in
    digits_in-suc b i (number_from_digits b (take (suc i) ds))
    ∙ ap (λ k. digits_in b i (k / b) ++ (k % b ∷ [])) more
    ∙ ap (λ k. digits_in b i k ++ ((m * b + d) % b ∷ [])) (div-mul-add m b d less)
    ∙ ap (λ k. digits_in b i m ++ (k ∷ [])) (mod-mul-add m b d less)
    ∙ ap (λ zs. zs ++ (d ∷ [])) (front_digits b ds i below (omega arith))
    ∙ sym (take_more ds i 0 (omega arith))
    ∙ ap (λ k. take k ds) (sym one)

pub digits_in_number : (b : ℕ) (ds : List ℕ) → All (λ d. d < b) ds → digits_in b (length ds) (number_from_digits b ds) ≡ ds
digits_in_number b ds below =
    let whole : take (length ds) ds ≡ ds = take_all (length ds) ds (omega arith) in
    ap (λ zs. digits_in b (length ds) (number_from_digits b zs)) (sym whole) ∙ front_digits b ds (length ds) below (omega arith) ∙ whole
