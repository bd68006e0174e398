-- Kept fields and the others are the whole.
use Rattle.std.proofs.Common.{◌≡◌, ℕ, zero, suc, Bool, true, false, not, List, [], ◌∷◌, ◌++◌, take, drop, Option, Some, None, refl, ap, ◌∙◌, inl, inr}
use Rattle.std.specs.List.{list_all}
use Rattle.std.specs.Str.{bytes_eq}
use Rattle.std.specs.Ordering.{is_lt, nat_cmp}
use Rattle.std.specs.declared.cmp.Ordering.TheVariants.{Equal}
use Rattle.std.specs.Cmp.Lexicographic.{slice_cmp}
use Rattle.std.proofs.lemmas.Bool.{and_parts, and_from, cases_Bool, false_from_ne_true}
use Rattle.std.proofs.lemmas.List.{take-append-drop}
use Rattle.std.proofs.lemmas.Cmp.{nat_list_cmp_total, tied_itself}
use Rattle.al_msgpack.specs.declared.val.Val.{Val}
use Rattle.al_msgpack.specs.declared.val.Entry.{Entry}
use Rattle.al_msgpack.specs.Rising.{rises, keys, canonical, are_canonical}
use Rattle.al_record.specs.Columns.{FieldOf, Rule, heads, rule, rules_of, put, value_at, with_entry, entries, range_fault, AllShown}
use Rattle.al_record.proofs.Order.{IsLess, IsBelow, Rising, rising, same_name}
use Rattle.al_record.proofs.Engine.{names}
use Rattle.al_bodies.specs.Kept.{is_kept, are_kept, kept, others, below, merged}

abbrev pub are_others : List (List ℕ) → Bool
are_others ns = list_all (λ n. not (is_kept n)) ns

differs : (a b : List ℕ) → is_kept a ≡ false → is_kept b ≡ true → bytes_eq a b ≡ false
differs a b p q = false_from_ne_true _ (λ t. let e : is_kept a ≡ is_kept b = ap is_kept (same_name a b t) in absurd cc)

pub not_true : (b : Bool) → not b ≡ true → b ≡ false
not_true true h = absurd cc
not_true false h = refl

pub others_at : (name : List ℕ) (es : List Entry) → is_kept name ≡ false → value_at name (others es) ≡ value_at name es
others_at name [] h = refl
others_at name (e ∷ es) h = elim (cases_Bool (is_kept e.key)) [
  | inl t ↦ rw (t, differs name e.key h t) (others_at name es h)
  | inr t ↦ elim (cases_Bool (bytes_eq name e.key)) [
    | inl s ↦ rw (t, s) refl
    | inr s ↦ rw (t, s) (others_at name es h)
  ]
]

pub range_others : (rs : List Rule) (es : List Entry) → are_others (names (heads rs)) ≡ true → range_fault rs (others es) ≡ range_fault rs es
range_others [] es h = refl
range_others (r ∷ rs) es h =
    let p = and_parts _ _ h in
    rw (others_at r.name es (not_true _ p.0), range_others rs es p.1) refl

pub shown_others : {X : Type 0} (fs : List (FieldOf X)) (x : X) (es : List Entry) → are_others (names (heads (rules_of fs))) ≡ true → AllShown fs x es → AllShown fs x (others es)
shown_others [] x es h a = tt
shown_others (f ∷ fs) x es h a =
    let p = and_parts _ _ h in
    (rw (others_at (rule f).name es (not_true _ p.0)) a.0, shown_others fs x es p.1 a.1)

others_above : (k : List ℕ) (es : List Entry) → IsBelow k (keys es) → IsBelow k (keys (others es))
others_above k [] h = tt
others_above k (e ∷ es) h = elim (cases_Bool (is_kept e.key)) [
  | inl t ↦ rw t (others_above k es h.1)
  | inr t ↦ rw t (h.0, others_above k es h.1)
]

kept_above : (k : List ℕ) (es : List Entry) → IsBelow k (keys es) → IsBelow k (keys (kept es))
kept_above k [] h = tt
kept_above k (e ∷ es) h = elim (cases_Bool (is_kept e.key)) [
  | inl t ↦ rw t (h.0, kept_above k es h.1)
  | inr t ↦ rw t (kept_above k es h.1)
]

others_rise : (es : List Entry) → Rising (keys es) → Rising (keys (others es))
others_rise [] h = tt
others_rise (e ∷ es) h = elim (cases_Bool (is_kept e.key)) [
  | inl t ↦ rw t (others_rise es h.1)
  | inr t ↦ rw t (others_above e.key es h.0, others_rise es h.1)
]

rises_from : (ns : List (List ℕ)) → Rising ns → rises ns ≡ true
rises_from [] h = refl
rises_from (a ∷ []) h = refl
rises_from (a ∷ b ∷ ns) h = and_from _ _ (rw h.0.0 refl) (rises_from (b ∷ ns) h.1)

vals_others : (es : List Entry) → list_all (λ e. canonical e.val) es ≡ true → list_all (λ e. canonical e.val) (others es) ≡ true
vals_others [] h = refl
vals_others (e ∷ es) h =
    let p = and_parts _ _ h in
    elim (cases_Bool (is_kept e.key)) [
      | inl t ↦ rw t (vals_others es p.1)
      | inr t ↦ rw t (and_from _ _ p.0 (vals_others es p.1))
    ]

pub others_canonical : (es : List Entry) → are_canonical es ≡ true → are_canonical (others es) ≡ true
others_canonical es h =
    let p = and_parts _ _ h in
    and_from _ _ (rises_from _ (others_rise es (rising _ p.0))) (vals_others es p.1)

kept_rise : (es : List Entry) → Rising (keys es) → Rising (keys (kept es))
kept_rise [] h = tt
kept_rise (e ∷ es) h = elim (cases_Bool (is_kept e.key)) [
  | inl t ↦ rw t (kept_above e.key es h.0, kept_rise es h.1)
  | inr t ↦ rw t (kept_rise es h.1)
]

vals_kept : (es : List Entry) → list_all (λ e. canonical e.val) es ≡ true → list_all (λ e. canonical e.val) (kept es) ≡ true
vals_kept [] h = refl
vals_kept (e ∷ es) h =
    let p = and_parts _ _ h in
    elim (cases_Bool (is_kept e.key)) [
      | inl t ↦ rw t (and_from _ _ p.0 (vals_kept es p.1))
      | inr t ↦ rw t (vals_kept es p.1)
    ]

pub kept_canonical : (es : List Entry) → are_canonical es ≡ true → are_canonical (kept es) ≡ true
kept_canonical es h =
    let p = and_parts _ _ h in
    and_from _ _ (rises_from _ (kept_rise es (rising _ p.0))) (vals_kept es p.1)

not_itself : (a : List ℕ) → IsLess a a → ⊥
not_itself a h =
    let same : slice_cmp nat_cmp a a ≡ Equal = tied_itself nat_list_cmp_total a in
    absurd cc

pub not_before : (a b : List ℕ) → IsLess a b → is_lt (slice_cmp nat_cmp b a) ≡ false
not_before a b h = false_from_ne_true _ (λ t. let back = rising (b ∷ a ∷ []) (and_from _ _ t refl) in not_itself a (nat_list_cmp_total.trans a b a h back.0.0))

-- an entry below all goes first
kept_first : (k : Entry) (ks os : List Entry) → IsBelow k.key (keys os) → merged (k ∷ ks) os ≡ k ∷ merged ks os
kept_first k ks [] h = refl
kept_first k ks (o ∷ os) h = rw h.0 refl

other_first : (o : Entry) (ks os : List Entry) → IsBelow o.key (keys ks) → merged ks (o ∷ os) ≡ o ∷ merged ks os
other_first o [] os h = refl
other_first o (k ∷ ks) os h = rw (not_before o.key k.key h.0) refl

joined : (es : List Entry) → Rising (keys es) → merged (kept es) (others es) ≡ es
joined [] h = refl
joined (e ∷ es) h = elim (cases_Bool (is_kept e.key)) [
  | inl t ↦ rw t (kept_first e (kept es) (others es) (others_above e.key es h.0) ∙ ap (λ (xs : List Entry). e ∷ xs) (joined es h.1))
  | inr t ↦ rw t (other_first e (kept es) (others es) (kept_above e.key es h.0) ∙ ap (λ (xs : List Entry). e ∷ xs) (joined es h.1))
]

pub join : (es : List Entry) → are_canonical es ≡ true → merged (kept es) (others es) ≡ es
join es h = joined es (rising _ (and_parts _ _ h).0)

pub kept_only : (es : List Entry) → are_kept (kept es) ≡ true
kept_only [] = refl
kept_only (e ∷ es) = elim (cases_Bool (is_kept e.key)) [
  | inl t ↦ rw t (and_from _ _ t (kept_only es))
  | inr t ↦ rw t (kept_only es)
]

-- ---- what was merged comes apart again

kept_append : (xs ys : List Entry) → kept (xs ++ ys) ≡ kept xs ++ kept ys
kept_append [] ys = refl
kept_append (e ∷ xs) ys = elim (cases_Bool (is_kept e.key)) [
  | inl t ↦ rw (t, kept_append xs ys) refl
  | inr t ↦ rw (t, kept_append xs ys) refl
]

others_append : (xs ys : List Entry) → others (xs ++ ys) ≡ others xs ++ others ys
others_append [] ys = refl
others_append (e ∷ xs) ys = elim (cases_Bool (is_kept e.key)) [
  | inl t ↦ rw (t, others_append xs ys) refl
  | inr t ↦ rw (t, others_append xs ys) refl
]

kept_all : (ks : List Entry) → are_kept ks ≡ true → kept ks ≡ ks
kept_all [] h = refl
kept_all (e ∷ ks) h =
    let p = and_parts (is_kept e.key) (are_kept ks) h in
    rw (p.0, kept_all ks p.1) refl

others_none : (ks : List Entry) → are_kept ks ≡ true → others ks ≡ []
others_none [] h = refl
others_none (e ∷ ks) h =
    let p = and_parts (is_kept e.key) (are_kept ks) h in
    rw (p.0, others_none ks p.1) refl

kept_front : (n : ℕ) (ks : List Entry) → are_kept ks ≡ true → are_kept (take n ks) ≡ true
kept_front zero ks h = refl
kept_front (suc n) [] h = refl
kept_front (suc n) (e ∷ ks) h = let p = and_parts _ _ h in and_from _ _ p.0 (kept_front n ks p.1)

kept_behind : (n : ℕ) (ks : List Entry) → are_kept ks ≡ true → are_kept (drop n ks) ≡ true
kept_behind zero ks h = h
kept_behind (suc n) [] h = refl
kept_behind (suc n) (e ∷ ks) h = kept_behind n ks (and_parts _ _ h).1

pub kept_merged : (ks os : List Entry) → are_kept ks ≡ true → are_others (keys os) ≡ true → kept (merged ks os) ≡ ks
kept_merged ks [] h q = kept_all ks h
kept_merged ks (o ∷ os) h q =
    let p = and_parts _ _ q in
    let n = below o.key ks in
    let front = kept_all (take n ks) (kept_front n ks h) in
    let behind = kept_merged (drop n ks) os (kept_behind n ks h) p.1 in
    kept_append (take n ks) (o ∷ merged (drop n ks) os) ∙ rw (front, not_true _ p.0, behind) (take-append-drop n ks)

pub others_merged : (ks os : List Entry) → are_kept ks ≡ true → are_others (keys os) ≡ true → others (merged ks os) ≡ os
others_merged ks [] h q = others_none ks h
others_merged ks (o ∷ os) h q =
    let p = and_parts _ _ q in
    let n = below o.key ks in
    let front = others_none (take n ks) (kept_front n ks h) in
    let behind = others_merged (drop n ks) os (kept_behind n ks h) p.1 in
    others_append (take n ks) (o ∷ merged (drop n ks) os) ∙ rw (front, not_true _ p.0, behind) refl

entry_other : (name : List ℕ) (o : Option Val) (rest : List Entry) → is_kept name ≡ false → are_others (keys rest) ≡ true → are_others (keys (with_entry name o rest)) ≡ true
entry_other name None rest h r = r
entry_other name (Some v) rest h r = and_from _ _ (rw h refl) r

pub entries_others : {X : Type 0} (fs : List (FieldOf X)) (x : X) → are_others (names (heads (rules_of fs))) ≡ true → are_others (keys (entries fs x)) ≡ true
entries_others [] x h = refl
entries_others (f ∷ fs) x h =
    let p = and_parts _ _ h in
    entry_other (rule f).name (put f x) (entries fs x) (not_true _ p.0) (entries_others fs x p.1)
