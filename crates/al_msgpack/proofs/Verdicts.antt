-- The verdict of reading is what the relation says, and nothing else is.
use Rattle.std.proofs.Common.{◌≡◌, ℕ, suc, ◌+◌, ◌-◌, ◌<◌, ◌≤◌, List, [], ◌∷◌, ◌++◌, length, get_or, take, drop, Result, Ok, Err, IfOk, true, refl, sym, ap, subst, ◌∙◌, append_assoc, append-nil, arith, length-append, inl, inr, take-append-drop, take_at}
use Rattle.std.proofs.lemmas.Bool.{cases_order}
use Rattle.std.proofs.lemmas.List.{take-append-le}
use Rattle.al_msgpack.specs.declared.val.Val.{Val}
use Rattle.al_msgpack.specs.declared.fault.Fault.TheVariants.{Short, Bad}
use Rattle.al_msgpack.specs.declared.fault.DecodeFault.{DecodeFault}
use Rattle.al_msgpack.specs.declared.fault.DecodeFault.TheVariants.{Truncated, Malformed, Trailing, Memory}
use Rattle.al_msgpack.specs.Reading.{Read, value_at, verdict, verdict_of, Answers}
use Rattle.al_msgpack.specs.Grammar.{Begins, AreBytes}
use Rattle.al_msgpack.specs.Spelling.{Spells}
use Rattle.al_msgpack.specs.Places.{IsSpelling, IsTruncated, IsMalformed, Means, MeansUnless}
use Rattle.al_msgpack.specs.Rising.{canonical}
use Rattle.al_msgpack.proofs.Canonical.{spells_canonical}
use Rattle.al_msgpack.proofs.Rising.{canonical_rises}
use Rattle.al_msgpack.proofs.Exact.{Fit, Goes, Exact, pair, pair_is, done, fail}
use Rattle.al_msgpack.proofs.Numbers.{Any}
use Rattle.al_msgpack.proofs.Sizes.{limit}
use Rattle.al_msgpack.proofs.Values.{spells_takes, spells_exact}

taken : (v : Val) (a rest : List ℕ) → IsSpelling v a → value_at 16 (a ++ rest) ≡ Ok (v, rest)
taken v a rest p = spells_takes 16 v a rest p

whole : (v : Val) (a : List ℕ) → IsSpelling v a → value_at 16 a ≡ Ok (v, [])
whole v a p = ap (value_at 16) (sym (append-nil a)) ∙ taken v a [] p

-- no spelling is a proper prefix of another
pub prefix_free : (v w : Val) (a : List ℕ) (b : ℕ) (rest : List ℕ) → IsSpelling v a → IsSpelling w (a ++ b ∷ rest) → ⊥
prefix_free v w a b rest p q =
    let e : done (pair v (b ∷ rest)) ≡ done (pair w []) = sym (taken v a (b ∷ rest) p) ∙ whole w (a ++ b ∷ rest) q in
    let t : b ∷ rest ≡ [] = (pair_is v w (b ∷ rest) [] e).1 in
    cc

-- bytes spell one value
pub one_value : (v w : Val) (a : List ℕ) → IsSpelling v a → IsSpelling w a → v ≡ w
one_value v w a p q = (pair_is v w [] [] (sym (whole v a p) ∙ whole w a q)).0

begins_less : (a b : List ℕ) → Begins IsSpelling (a ++ b) → Begins IsSpelling a
begins_less a b (v, more, p) = (v, b ++ more, subst (λ z. IsSpelling v z) (append_assoc a b more) p)

module _ (input : List ℕ) (fit : Fit limit input) where
  exact : Exact limit (Spells 16) Any (value_at 16)
  exact = spells_exact 16 limit (omega arith)

  malformed : (left : ℕ) → value_at 16 input ≡ Err (Bad left) → IsMalformed input (length input - left)
  malformed left e =
      let f = exact.bad input left fit e in
      let len : length input ≡ length f.front + suc (length f.tail) = ap length f.parts ∙ length-append f.front (f.byte ∷ f.tail) in
      let at : length input - left ≡ length f.front = omega (arith, f.left_is) in
      let upto : take (length f.front) input ≡ f.front = ap (take (length f.front)) f.parts ∙ take_at f.front (f.byte ∷ f.tail) (length f.front) refl in
      let regroup : input ≡ (f.front ++ f.byte ∷ []) ++ f.tail = f.parts ∙ sym (append_assoc f.front (f.byte ∷ []) f.tail) in
      let long : length (f.front ++ f.byte ∷ []) ≡ suc (length f.front) = length-append f.front (f.byte ∷ []) ∙ omega arith in
      let with : take (suc (length f.front)) input ≡ f.front ++ f.byte ∷ [] = ap (take (suc (length f.front))) regroup ∙ take_at (f.front ++ f.byte ∷ []) f.tail (suc (length f.front)) long in
      record {
        within = omega arith;
        stops = λ b. f.stops (subst (λ z. Begins IsSpelling z) (ap (λ n. take (suc n) input) at ∙ with) b);
        least = λ j le.
            let short : j ≤ length f.front = omega arith in
            let parts : take j input ++ drop j f.front ≡ f.front = ap (λ z. z ++ drop j f.front) (ap (take j) f.parts ∙ take-append-le j f.front (f.byte ∷ f.tail) short) ∙ take-append-drop j f.front in
            begins_less (take j input) (drop j f.front) (subst (λ z. Begins IsSpelling z) (sym parts) (f.goes.0, f.goes.1, f.goes.2));
        none = λ v a rest is p.
            let t : Err (Bad left) ≡ done (pair v rest) = sym e ∙ ap (value_at 16) is ∙ taken v a rest p in
            cc;
      }

  truncated : value_at 16 input ≡ Err Short → IsTruncated input (length input)
  truncated e = by (exact.short input fit e)
    where
      by : Goes (Spells 16) Any input → IsTruncated input (length input)
      by (v, [], p, q) =
          let t : fail Short ≡ done (pair v []) = sym e ∙ whole v input (subst (λ z. IsSpelling v z) (append-nil input) p) in
          absurd cc
      by (v, b ∷ more, p, q) = record { at_is = refl; val = v; next = b; more = more; spells = p }

  -- the verdict is right
  pub verdict_means : Means input (verdict input)
  verdict_means = by (value_at 16 input) refl
    where
      by : (x : Read Val) → value_at 16 input ≡ x → Means input (verdict_of (length input) x)
      by (Ok (v, [])) e = let f = exact.found input v [] fit e in subst (λ z. IsSpelling v z) (sym (f.1 ∙ append-nil f.0)) f.2
      by (Ok (v, b ∷ rest)) e =
          let f = exact.found input v (b ∷ rest) fit e in
          record { val = v; front = f.0; next = b; more = rest; is = f.1; spells = f.2; at_is = omega (arith, ap length f.1, length-append f.0 (b ∷ rest)) }
      by (Err Short) e = truncated e
      by (Err (Bad left)) e = malformed left e

  -- and nothing else is
  pub means_verdict : (r : Result Val DecodeFault) → Means input r → verdict input ≡ r
  means_verdict (Ok v) p = ap (verdict_of (length input)) (whole v input p)
  means_verdict (Err Memory) p = absurd p
  means_verdict (Err (Trailing at)) p =
      ap (verdict_of (length input)) (ap (value_at 16) p.is ∙ taken p.val p.front (p.next ∷ p.more) p.spells)
      ∙ ap (λ z. Err (Trailing z)) (omega (arith, ap length p.is, length-append p.front (p.next ∷ p.more), p.at_is))
  means_verdict (Err (Truncated at)) p = by (value_at 16 input) refl
    where
      by : (x : Read Val) → value_at 16 input ≡ x → verdict_of (length input) x ≡ Err (Truncated at)
      by (Ok (v, rest)) e =
          let f = exact.found input v rest fit e in
          let longer : IsSpelling p.val (f.0 ++ (rest ++ p.next ∷ p.more)) = subst (λ z. IsSpelling p.val z) (ap (λ z. z ++ p.next ∷ p.more) f.1 ∙ append_assoc f.0 rest (p.next ∷ p.more)) p.spells in
          absurd (clash v f.0 rest f.2 longer)
        where
          clash : (v : Val) (a rest : List ℕ) → IsSpelling v a → IsSpelling p.val (a ++ (rest ++ p.next ∷ p.more)) → ⊥
          clash v a [] q longer = prefix_free v p.val a p.next p.more q longer
          clash v a (c ∷ rest) q longer = prefix_free v p.val a c (rest ++ p.next ∷ p.more) q longer
      by (Err Short) e = ap (λ z. Err (Truncated z)) (sym p.at_is)
      by (Err (Bad left)) e =
          let f = exact.bad input left fit e in
          let regroup : input ++ p.next ∷ p.more ≡ (f.front ++ f.byte ∷ []) ++ (f.tail ++ p.next ∷ p.more) = ap (λ z. z ++ p.next ∷ p.more) (f.parts ∙ sym (append_assoc f.front (f.byte ∷ []) f.tail)) ∙ append_assoc (f.front ++ f.byte ∷ []) f.tail (p.next ∷ p.more) in
          absurd (f.stops (p.val, f.tail ++ p.next ∷ p.more, subst (λ z. IsSpelling p.val z) regroup p.spells))
  means_verdict (Err (Malformed at)) p = by (value_at 16 input) refl
    where
      by : (x : Read Val) → value_at 16 input ≡ x → verdict_of (length input) x ≡ Err (Malformed at)
      by (Ok (v, rest)) e = let f = exact.found input v rest fit e in absurd (p.none v f.0 rest f.1 f.2)
      by (Err Short) e =
          let f = exact.short input fit e in
          let parts : input ++ f.1 ≡ take (suc at) input ++ (drop (suc at) input ++ f.1) = ap (λ z. z ++ f.1) (sym (take-append-drop (suc at) input)) ∙ append_assoc (take (suc at) input) (drop (suc at) input) f.1 in
          absurd (p.stops (f.0, drop (suc at) input ++ f.1, subst (λ z. IsSpelling f.0 z) parts f.2))
      by (Err (Bad left)) e =
          let m = malformed left e in
          elim (cases_order (length input - left) at) [
            | inl q ↦ ap (λ z. Err (Malformed z)) q
            | inr (inl lt) ↦ absurd (m.stops (p.least (suc (length input - left)) lt))
            | inr (inr lt) ↦ absurd (p.stops (m.least (suc at) lt))
          ]

-- what holds of the verdict holds of the answer
pub right_from : (input : List ℕ) (r v : Result Val DecodeFault) → Answers r v → Means input v → MeansUnless input r
right_from input (Err Memory) v a m = tt
right_from input (Err (Truncated at)) v a m = subst (λ z. Means input z) a m
right_from input (Err (Malformed at)) v a m = subst (λ z. Means input z) a m
right_from input (Err (Trailing at)) v a m = subst (λ z. Means input z) a m
right_from input (Ok x) v a m = subst (λ z. Means input z) a m

pub only_from : (r v w : Result Val DecodeFault) → Answers r v → v ≡ w → Answers r w
only_from r v w a e = subst (λ z. Answers r z) e a

-- a value that is read has rising keys
pub rises_from : (input : List ℕ) (r : Result Val DecodeFault) → MeansUnless input r → IfOk r (λ v. canonical v ≡ true)
rises_from input (Ok v) m = canonical_rises 16 v (spells_canonical 16 v input m)
rises_from input (Err e) m = tt

pub bytes_fit : (bytes : List ℕ) → ((i : ℕ) → get_or bytes i 0 < 256) → AreBytes bytes
bytes_fit [] h = tt
bytes_fit (b ∷ bytes) h = (h 0, bytes_fit bytes (λ i. h (suc i)))
