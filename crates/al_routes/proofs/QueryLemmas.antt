-- Two parts of a query.
use Rattle.std.proofs.Common.{◌≡◌, ◌<◌, ◌≤◌, ◌+◌, ◌==◌, ◌^◌, ℕ, zero, suc, Bool, true, false, not, cond, List, [], ◌∷◌, ◌++◌, length, take, drop, get_or, codes, refl, sym, ap, ◌∙◌, arith, subst, Option, Some, None}
use Rattle.std.proofs.lemmas.Bool.Decides.{nat_tests}
use Rattle.std.proofs.lemmas.List.Sums.{position_or_len_is}
use Rattle.std.proofs.Math.ListN.{get_or-append}
use Rattle.std.proofs.Math.Seq.{get_or-append_seam, take-append_seam, drop-append-add}
use Rattle.std.specs.Fmt.{decimal}
use Rattle.std.specs.Int.{IsInRange}
use Rattle.std.specs.List.{before_first, after_first, position_or_len, prefix_len}
use Rattle.al_routes.specs.Texts.{IsBoth, IsRound, IsSomeRound, IsSpan, IsVote}
use Rattle.al_routes.proofs.NumberLemmas.{AreDigits, decimal_digits}

-- no ampersand
abbrev pub NoAmp : List ℕ → Type 0
NoAmp [] = Unit {0}
NoAmp (b ∷ bs) = ((b == 38) ≡ false) × NoAmp bs

no_amp_digits : (ds : List ℕ) → AreDigits ds → NoAmp ds
no_amp_digits [] h = tt
no_amp_digits (d ∷ ds) h =
    let here : IsInRange 48 57 d = h 0 (omega arith) in
    (grind (arith, nat_tests, here), no_amp_digits ds (λ i l. h (suc i) (omega arith)))

no_amp_at : (xs : List ℕ) (k : ℕ) → NoAmp xs → k < length xs → (get_or xs k 0 == 38) ≡ false
no_amp_at [] k h l = elim l [ ]
no_amp_at (x ∷ xs) zero h l = h.0
no_amp_at (x ∷ xs) (suc k) h l = no_amp_at xs k h.1 (omega arith)

-- where the first ampersand stands
first_amp : (xs ys : List ℕ) → NoAmp xs → position_or_len (λ b. b == 38) (xs ++ 38 ∷ ys) ≡ length xs
first_amp xs ys h =
    position_or_len_is (λ b. b == 38) (xs ++ 38 ∷ ys) (length xs) 0 (length_le xs (38 ∷ ys))
    (λ k l. ap (λ b. b == 38) (get_or-append xs (38 ∷ ys) 0 k l) ∙ no_amp_at xs k h l)
    (λ l. ap (λ b. b == 38) (get_or-append_seam xs 38 ys 0))
  where
    length_le : (ls bs : List ℕ) → length ls ≤ length (ls ++ bs)
    length_le [] bs = omega arith
    length_le (a ∷ ls) bs = let more = length_le ls bs in omega (arith, more)

before_at : (xs ys : List ℕ) → NoAmp xs → before_first (λ b. b == 38) (xs ++ 38 ∷ ys) ≡ xs
before_at xs ys h = ap (λ n. take n (xs ++ 38 ∷ ys)) (first_amp xs ys h) ∙ take-append_seam xs (38 ∷ ys)

after_at : (xs ys : List ℕ) → NoAmp xs → after_first (λ b. b == 38) (xs ++ 38 ∷ ys) ≡ ys
after_at xs ys h = ap (λ n. drop (n + 1) (xs ++ 38 ∷ ys)) (first_amp xs ys h) ∙ drop-append-add xs (38 ∷ ys) 1

-- both halves make the whole
joined : (q : List ℕ) → 0 < length (after_first (λ b. b == 38) q) → q ≡ before_first (λ b. b == 38) q ++ 38 ∷ after_first (λ b. b == 38) q
joined [] h = absurd (omega arith)
joined (b ∷ q) h = by (b == 38) refl h (joined q)
  where
    P : ℕ
    P = prefix_len (λ x. not (x == 38)) q

    one : 1 + P ≡ suc P
    one = omega arith

    two : 1 + P + 1 ≡ suc (P + 1)
    two = omega arith

    by : (c : Bool) → (b == 38) ≡ c → 0 < length (drop (cond (not c) (1 + P) 0 + 1) (b ∷ q)) → (0 < length (drop (P + 1) q) → q ≡ take P q ++ 38 ∷ drop (P + 1) q)
        → b ∷ q ≡ take (cond (not c) (1 + P) 0) (b ∷ q) ++ 38 ∷ drop (cond (not c) (1 + P) 0 + 1) (b ∷ q)
    by true e h ih = let same : b ≡ 38 = grind (arith, nat_tests) in ap (λ n. n ∷ q) same
    by false e h ih =
        subst (λ n. b ∷ q ≡ take n (b ∷ q) ++ 38 ∷ drop (1 + P + 1) (b ∷ q)) (sym one)
        (subst (λ m. b ∷ q ≡ take (suc P) (b ∷ q) ++ 38 ∷ drop m (b ∷ q)) (sym two)
        (ap (λ (s : List ℕ). b ∷ s) (ih (subst (λ m. 0 < length (drop m (b ∷ q))) two h))))

pub round_clear : (n : ℕ) → n ≤ 2 ^ 62 → NoAmp (codes "round=" ++ decimal n)
round_clear n most = (refl, (refl, (refl, (refl, (refl, (refl, no_amp_digits (decimal n) (decimal_digits n most)))))))

-- the parts are read, or one is not
pub both_read : (q first second : List ℕ) (r v : ℕ) → first ≡ before_first (λ b. b == 38) q → second ≡ after_first (λ b. b == 38) q → IsSomeRound first r → IsVote second v → IsBoth q (r, v)
both_read q first second r v f s a b =
    let some : 0 < length (after_first (λ b. b == 38) q) = omega (arith, ap length (sym s ∙ b.1)) in
    (a.0, b.0, joined q some ∙ ap (λ (x : List ℕ). x ++ 38 ∷ after_first (λ b. b == 38) q) (sym f ∙ a.1) ∙ ap (λ (y : List ℕ). (codes "round=" ++ decimal r) ++ 38 ∷ y) (sym s ∙ b.1))

pub first_read : (q first : List ℕ) (x : ℕ × ℕ) → first ≡ before_first (λ b. b == 38) q → IsBoth q x → IsSomeRound first x.0
first_read q first x f (low, high, is) = (low, f ∙ ap (before_first (λ b. b == 38)) is ∙ before_at (codes "round=" ++ decimal x.0) (codes "vote=" ++ decimal x.1) (round_clear x.0 low))

pub second_read : (q second : List ℕ) (x : ℕ × ℕ) → second ≡ after_first (λ b. b == 38) q → IsBoth q x → IsVote second x.1
second_read q second x s (low, high, is) = (high, s ∙ ap (after_first (λ b. b == 38)) is ∙ after_at (codes "round=" ++ decimal x.0) (codes "vote=" ++ decimal x.1) (round_clear x.0 low))

-- a query that is none of the three
pub no_span : (q : List ℕ) → ((r : Option ℕ) → IsRound q r → ⊥) → ((v : ℕ) → IsVote q v → ⊥) → ((x : ℕ × ℕ) → IsBoth q x → ⊥) → (s : Option ℕ × Option ℕ) → IsSpan q s → ⊥
no_span q a b c (round, None) (low, high, is) = a round (low, is)
no_span q a b c (None, Some v) (low, high, is) = b v (high, is)
no_span q a b c (Some r, Some v) (low, high, is) = c (r, v) (low, high, is)
