-- Kept fields merged with the others.
use Rattle.std.proofs.Common.{◌≡◌, ◌<◌, ◌≤◌, ◌+◌, ◌^◌, ◌⊎◌, ℕ, suc, Bool, true, false, not, List, [], ◌∷◌, length, Option, Some, None, refl, sym, ap, ap₂, ◌∙◌, subst, arith, inl, inr}
use Rattle.std.specs.Ordering.{is_lt, nat_cmp}
use Rattle.std.specs.Cmp.Lexicographic.{slice_cmp}
use Rattle.std.proofs.lemmas.Bool.{and_parts, and_from, cases_Bool, cases_lt}
use Rattle.std.specs.List.{list_all}
use Rattle.al_msgpack.specs.declared.val.Val.{Val}
use Rattle.al_msgpack.specs.declared.val.Val.TheVariants as values
use Rattle.al_msgpack.specs.declared.val.Entry.{Entry}
use Rattle.al_msgpack.specs.Grammar.{Above}
use Rattle.al_msgpack.specs.Rising.{keys}
use Rattle.al_msgpack.specs.Canonical as canon
use Rattle.al_msgpack.specs.Canonical.{AreEntries, IsCanonical}
use Rattle.al_msgpack.proofs.Rising.{above_less}
use Rattle.al_bodies.specs.Kept.{is_kept, are_kept, merged}
use Rattle.al_bodies.proofs.Apart.{are_others, not_before, not_true}

above_or : (a b : List ℕ) → Above a b ⊎ ((a ≡ b) ⊎ Above b a)
above_or [] [] = inr (inl refl)
above_or [] (y ∷ b) = inl tt
above_or (x ∷ a) [] = inr (inr tt)
above_or (x ∷ a) (y ∷ b) = elim (cases_lt x y) [
  | inl l ↦ inl (inl l)
  | inr g ↦ elim (cases_lt y x) [
    | inl l ↦ inr (inr (inl l))
    | inr h ↦ (let e : x ≡ y = omega (arith, g, h) in
        elim (above_or a b) [
          | inl u ↦ inl (inr (e, u))
          | inr v ↦ elim v [
            | inl s ↦ inr (inl (ap₂ (λ (z : ℕ) (zs : List ℕ). z ∷ zs) e s))
            | inr u ↦ inr (inr (inr (sym e, u)))
          ]
        ])
  ]
]

-- an entry that is kept and one that is not have different keys
apart_keys : (k o : Entry) → is_kept k.key ≡ true → is_kept o.key ≡ false → k.key ≡ o.key → ⊥
apart_keys k o p q e = let f : is_kept k.key ≡ is_kept o.key = ap is_kept e in absurd cc

kept_step : (k o : Entry) (ks os : List Entry) → Above k.key o.key → merged (k ∷ ks) (o ∷ os) ≡ k ∷ merged ks (o ∷ os)
kept_step k o ks os u = rw (above_less k.key o.key u) refl

other_step : (k o : Entry) (ks os : List Entry) → Above o.key k.key → merged (k ∷ ks) (o ∷ os) ≡ o ∷ merged (k ∷ ks) os
other_step k o ks os u = rw (not_before o.key k.key (above_less o.key k.key u)) refl

module _ (P : Val → Type 0) where
  -- the first of two goes on with the rest
  goes : (before : Option (List ℕ)) (e : Entry) (old new : List Entry) → AreEntries P before (e ∷ old) → AreEntries P (Some e.key) new → AreEntries P before (e ∷ new)
  goes before e old new (up, fits, lt, val, rest) p = (up, fits, lt, val, p)

  -- what stands above e does so first of all
  above_first : (before : Option (List ℕ)) (e o : Entry) (os : List Entry) → Above e.key o.key → AreEntries P before (o ∷ os) → AreEntries P (Some e.key) (o ∷ os)
  above_first before e o os u (up, fits, lt, val, rest) = (u, fits, lt, val, rest)

  rest_of : (before : Option (List ℕ)) (e : Entry) (es : List Entry) → AreEntries P before (e ∷ es) → AreEntries P (Some e.key) es
  rest_of before e es (up, fits, lt, val, rest) = rest

  pub merged_are : (ks os : List Entry) → are_kept ks ≡ true → are_others (keys os) ≡ true → (before : Option (List ℕ)) → AreEntries P before ks → AreEntries P before os → AreEntries P before (merged ks os)
  merged_are ks [] h q before k p = k
  merged_are [] (o ∷ os) h q before k p = goes before o os (merged [] os) p (merged_are [] os refl (and_parts _ _ q).1 (Some o.key) tt (rest_of before o os p))
  merged_are (k ∷ ks) (o ∷ os) h q before a p =
      let s = and_parts (is_kept k.key) (are_kept ks) h in
      let t = and_parts _ (are_others (keys os)) q in
      elim (above_or k.key o.key) [
        | inl u ↦ subst (λ (es : List Entry). AreEntries P before es) (sym (kept_step k o ks os u)) (goes before k ks _ a (merged_are ks (o ∷ os) s.1 q (Some k.key) (rest_of before k ks a) (above_first before k o os u p)))
        | inr v ↦ elim v [
          | inl e ↦ absurd (apart_keys k o s.0 (not_true _ t.0) e)
          | inr u ↦ subst (λ (es : List Entry). AreEntries P before es) (sym (other_step k o ks os u)) (goes before o os _ p (merged_are (k ∷ ks) os h t.1 (Some o.key) (above_first before o k ks u a) (rest_of before o os p)))
        ]
      ]

pub merged_count : (ks os : List Entry) → length (merged ks os) ≡ length ks + length os
merged_count ks [] = omega arith
merged_count [] (o ∷ os) = let n : length (merged [] os) ≡ 0 + length os = merged_count [] os in ap (λ (i : ℕ). suc i) n ∙ omega arith
merged_count (k ∷ ks) (o ∷ os) =
    elim (cases_Bool (is_lt (slice_cmp nat_cmp k.key o.key))) [
      | inl t ↦ (let e : merged (k ∷ ks) (o ∷ os) ≡ k ∷ merged ks (o ∷ os) = rw t refl in ap length e ∙ ap (λ (i : ℕ). suc i) (merged_count ks (o ∷ os)) ∙ omega arith)
      | inr t ↦ (let e : merged (k ∷ ks) (o ∷ os) ≡ o ∷ merged (k ∷ ks) os = rw t refl in let n : length (merged (k ∷ ks) os) ≡ length (k ∷ ks) + length os = merged_count (k ∷ ks) os in ap length e ∙ omega (arith, n))
    ]

pub merged_canonical : (depth : ℕ) (ks os : List Entry) → are_kept ks ≡ true → are_others (keys os) ≡ true → AreEntries (IsCanonical depth) None ks → AreEntries (IsCanonical depth) None os → length ks + length os < 2 ^ 32 → IsCanonical (suc depth) (values.Map (merged ks os))
unfolding IsCanonical
merged_canonical depth ks os h q k o lt = inr (canon.map (merged ks os) refl (rw (merged_count ks os) lt) (merged_are (IsCanonical depth) ks os h q None k o))

pub others_keys : (os : List Entry) → list_all (λ e. not (is_kept e.key)) os ≡ true → are_others (keys os) ≡ true
others_keys [] h = refl
others_keys (o ∷ os) h = let p = and_parts (not (is_kept o.key)) _ h in and_from (not (is_kept o.key)) _ p.0 (others_keys os p.1)
