-- The fields of a head, one more at the end, and a number, one digit more.
use Rattle.std.proofs.Common.{◌≡◌, ◌≤◌, ◌<◌, ◌+◌, ◌*◌, ◌-◌, ◌^◌, ◌||◌, ◌&&◌, ℕ, Bool, true, false, cond, List, [], ◌∷◌, ◌++◌, length, min, refl, sym, ap, ◌∙◌, arith, codes, nat_lt, subst, ltb-true, ltb-false, lt-ltb, length-append, rules, get_or, drop}
use Rattle.std.proofs.Math.Nat.{min-eq_left}
use Rattle.std.specs.List.{list_any}
use Rattle.std.proofs.lemmas.List.{append-nil, at_drop_more, at_drop_all}
use Rattle.std.proofs.lemmas.Str.{digit_value_digit}
use Rattle.std.specs.Str.{all_ascii_digits}
use Rattle.std.specs.Str.Parse.{digits_value, digits_value_after}
use Rattle.std.specs.Char.{digit_value, is_ascii_digit}
use Rattle.httparse.specs.declared.spans.Span.{Span}
use Rattle.httparse.specs.Spans.{span_bytes}
use Rattle.al_http.specs.declared.fields.Named.{Named}
use Rattle.al_http.specs.declared.fields.Named.TheVariants as named
use Rattle.al_http.specs.Fields.{is_same_text, values, IsNamed, says_close, size_of_text}
use Rattle.al_http.specs.declared.head.BodySize.TheVariants.{Length}

pub values-push : (name : List ℕ) (ps : List (List ℕ × List ℕ)) (p : List ℕ × List ℕ) → values name (ps ++ p ∷ []) ≡ values name ps ++ values name (p ∷ [])
values-push name [] p = refl
values-push name (q ∷ ps) p = by_test (is_same_text q.0 name) (values-push name ps p)
  where
    by_test : (b : Bool) → values name (ps ++ p ∷ []) ≡ values name ps ++ values name (p ∷ [])
        → cond b (q.1 ∷ values name (ps ++ p ∷ [])) (values name (ps ++ p ∷ [])) ≡ cond b (q.1 ∷ values name ps) (values name ps) ++ values name (p ∷ [])
    by_test true is = ap (λ vs. q.1 ∷ vs) is
    by_test false is = is

-- a field of another name
pub values-other : (name : List ℕ) (ps : List (List ℕ × List ℕ)) (p : List ℕ × List ℕ) → is_same_text p.0 name ≡ false → values name (ps ++ p ∷ []) ≡ values name ps
values-other name ps p is = values-push name ps p ∙ rw is (append-nil (values name ps))

-- a field of the name
pub values-named : (name : List ℕ) (ps : List (List ℕ × List ℕ)) (p : List ℕ × List ℕ) → is_same_text p.0 name ≡ true → values name (ps ++ p ∷ []) ≡ values name ps ++ p.1 ∷ []
values-named name ps p is = values-push name ps p ∙ rw is refl

pub any-push : (f : List ℕ → Bool) (vs : List (List ℕ)) (v : List ℕ) → list_any f (vs ++ v ∷ []) ≡ (list_any f vs || f v)
any-push f [] v = by_test (f v)
  where
    by_test : (b : Bool) → (b || false) ≡ b
    by_test true = refl
    by_test false = refl
any-push f (w ∷ vs) v = by_test (f w) (any-push f vs v)
  where
    by_test : (b : Bool) → list_any f (vs ++ v ∷ []) ≡ (list_any f vs || f v) → (b || list_any f (vs ++ v ∷ [])) ≡ ((b || list_any f vs) || f v)
    by_test true is = refl
    by_test false is = is

pub value_grows : (n : ℕ) (cs : List ℕ) → n ≤ digits_value_after 10 n cs
value_grows n [] = omega arith
value_grows n (c ∷ cs) = let more = value_grows (n * 10 + digit_value c) cs in omega (arith, more)

-- a number that is cut off at most may be cut off early
pub cut_early : (most n : ℕ) (cs : List ℕ) → min (digits_value_after 10 (min n most) cs) most ≡ min (digits_value_after 10 n cs) most
cut_early most n cs = by_test (nat_lt most n) refl
  where
    by_test : (b : Bool) → nat_lt most n ≡ b → min (digits_value_after 10 (min n most) cs) most ≡ min (digits_value_after 10 n cs) most
    by_test false is =
        let low : n ≤ most = omega (arith, ltb-false most n is) in
        ap (λ m. min (digits_value_after 10 m cs) most) (min-eq_left low)
    by_test true is =
        let high : most < n = omega (arith, ltb-true most n is) in
        let cut : min n most ≡ most = omega (arith, high) in
        let a = value_grows most cs in
        let b = value_grows n cs in
        rw cut (omega (arith, a, b, high))

-- the first field of the name
pub named_first : (buf name : List ℕ) (ps : List (List ℕ × List ℕ)) (p : List ℕ × List ℕ) (s : Span) → IsNamed buf (values name ps) named.Absent → is_same_text p.0 name ≡ true → p.1 ≡ span_bytes buf s → (s.start ≤ s.end) × (s.end ≤ length buf)
    → IsNamed buf (values name (ps ++ p ∷ [])) (named.Once s)
named_first buf name ps p s none is at within =
    (values-named name ps p is ∙ ap (λ vs. vs ++ p.1 ∷ []) none ∙ ap (λ v. v ∷ []) at, within.0, within.1)

-- one more field of the name
pub named_more : (buf name : List ℕ) (ps : List (List ℕ × List ℕ)) (p : List ℕ × List ℕ) (found : Named) → IsNamed buf (values name ps) found → (found ≡ named.Absent → ⊥) → is_same_text p.0 name ≡ true → IsNamed buf (values name (ps ++ p ∷ [])) named.Several
named_more buf name ps p named.Absent f not is = absurd (not refl)
named_more buf name ps p (named.Once s) f not is =
    let one = ap length f.0 in
    let all = ap length (values-named name ps p is) in
    omega (arith, one, all, length-append (values name ps) (p.1 ∷ []))
named_more buf name ps p named.Several f not is =
    let all = ap length (values-named name ps p is) in
    omega (arith, f, all, length-append (values name ps) (p.1 ∷ []))

-- a field of another name
pub named_other : (buf name : List ℕ) (ps : List (List ℕ × List ℕ)) (p : List ℕ × List ℕ) (found : Named) → IsNamed buf (values name ps) found → is_same_text p.0 name ≡ false → IsNamed buf (values name (ps ++ p ∷ [])) found
named_other buf name ps p found f is = subst (λ vs. IsNamed buf vs found) (sym (values-other name ps p is)) f

-- one more field, and whether it says close
pub close_more : (ps : List (List ℕ × List ℕ)) (p : List ℕ × List ℕ) → says_close (ps ++ p ∷ []) ≡ (says_close ps || (is_same_text p.0 (codes "connection") && is_same_text p.1 (codes "close")))
close_more ps p = by_test (is_same_text p.0 (codes "connection")) refl
  where
    or_false : (b : Bool) → (b || false) ≡ b
    or_false true = refl
    or_false false = refl

    by_test : (b : Bool) → is_same_text p.0 (codes "connection") ≡ b → says_close (ps ++ p ∷ []) ≡ (says_close ps || (b && is_same_text p.1 (codes "close")))
    by_test true is = ap (list_any (λ v. is_same_text v (codes "close"))) (values-named (codes "connection") ps p is) ∙ any-push (λ v. is_same_text v (codes "close")) (values (codes "connection") ps) p.1
    by_test false is = ap (list_any (λ v. is_same_text v (codes "close"))) (values-other (codes "connection") ps p is) ∙ sym (or_false (says_close ps))

-- a digit more
pub digit_is : (c : ℕ) → is_ascii_digit c ≡ true → digit_value c + 48 ≡ c
digit_is c is = digit_value_digit c (search (rules, is))

pub digits_more : (text : List ℕ) (i : ℕ) → i < length text → is_ascii_digit (get_or text i 0) ≡ true → all_ascii_digits (drop i text) ≡ all_ascii_digits text → all_ascii_digits (drop (i + 1) text) ≡ all_ascii_digits text
digits_more text i within is so =
    let step : all_ascii_digits (drop i text) ≡ (is_ascii_digit (get_or text i 0) && all_ascii_digits (drop (i + 1) text)) = at_drop_more all_ascii_digits text i 0 within in
    let left : all_ascii_digits (drop i text) ≡ all_ascii_digits (drop (i + 1) text) = step ∙ rw is refl in
    sym left ∙ so

pub digits_end : (text : List ℕ) (i : ℕ) → i < length text → is_ascii_digit (get_or text i 0) ≡ false → all_ascii_digits (drop i text) ≡ all_ascii_digits text → all_ascii_digits text ≡ false
digits_end text i within is so =
    let step : all_ascii_digits (drop i text) ≡ (is_ascii_digit (get_or text i 0) && all_ascii_digits (drop (i + 1) text)) = at_drop_more all_ascii_digits text i 0 within in
    sym so ∙ step ∙ rw is refl

pub value_more : (text : List ℕ) (i n m most whole : ℕ) → i < length text → is_ascii_digit (get_or text i 0) ≡ true → m ≡ min (n * 10 + (get_or text i 0 - 48)) most → min (digits_value_after 10 n (drop i text)) most ≡ whole → min (digits_value_after 10 m (drop (i + 1) text)) most ≡ whole
value_more text i n m most whole within is next so =
    let digit = digit_is (get_or text i 0) is in
    let next' : m ≡ min (n * 10 + digit_value (get_or text i 0)) most = next ∙ ap (λ d. min (n * 10 + d) most) (omega (arith, digit)) in
    let step : digits_value_after 10 n (drop i text) ≡ digits_value_after 10 (n * 10 + digit_value (get_or text i 0)) (drop (i + 1) text) = at_drop_more (digits_value_after 10 n) text i 0 within in
    ap (λ k. min (digits_value_after 10 k (drop (i + 1) text)) most) next' ∙ cut_early most (n * 10 + digit_value (get_or text i 0)) (drop (i + 1) text) ∙ sym (ap (λ k. min k most) step) ∙ so

-- the number of a whole text of digits
pub size_whole : (text : List ℕ) (i n : ℕ) → length text ≤ i → (0 < length text) → n ≤ 2 ^ 64 - 1 → all_ascii_digits (drop i text) ≡ all_ascii_digits text
    → min (digits_value_after 10 n (drop i text)) (2 ^ 64 - 1) ≡ min (digits_value 10 text) (2 ^ 64 - 1) → Length n ≡ size_of_text text
size_whole text i n end some fits digits value =
    let all : all_ascii_digits text ≡ true = sym digits ∙ at_drop_all all_ascii_digits text i end in
    let last : digits_value_after 10 n (drop i text) ≡ n = at_drop_all (digits_value_after 10 n) text i end in
    let is : n ≡ min (digits_value 10 text) (2 ^ 64 - 1) = sym (min-eq_left fits) ∙ sym (ap (λ k. min k (2 ^ 64 - 1)) last) ∙ value in
    let there : nat_lt 0 (length text) ≡ true = lt-ltb 0 (length text) some in
    rw (there, all) (ap Length is)
