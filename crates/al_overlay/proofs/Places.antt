-- Where a key stands among changes in the order of keys, or would, and what it is to put it there.
use Rattle.std.proofs.Common.{◌≡◌, ◌∙◌, ℕ, zero, suc, ◌+◌, ◌<◌, ◌≤◌, refl, sym, ap, subst, List, [], ◌∷◌, length, Ordering, Less, Equal, Greater, Option, false, T, is_lt, arith}
use Rattle.std.specs.Prelude.{slice_index_or}
use Rattle.std.specs.Ordering.{ordering_index, ordering_reverse}
use Rattle.std.specs.List.{AllWithin, HoldsAt, insert}
use Rattle.std.specs.List.Sorted.{IsNonDecreasingBy}
use Rattle.std.specs.FinMap.{is_sorted}
use Rattle.std.specs.FinMap.Entries.{below_all, by_order}
use Rattle.std.proofs.lemmas.List.Sorted.{searchable_from_sorted}
use Rattle.al_base.specs.declared.key.Key.{Key}
use Rattle.al_base.specs.Keys.{key_cmp}
use Rattle.al_rows.specs.declared.row.Row.{Row}
use Rattle.al_rows.proofs.Keys.{exact_keys, keys_total}
use Rattle.al_overlay.specs.Held.{AreInOrder, put_first}
use Rattle.al_overlay.proofs.Firsts.{first_of, less, second_of, sorted}

abbrev Changes : Type 0
Changes = List (Key × Option Row)

turned : (x y : Key) (r : Ordering) → key_cmp x y ≡ r → key_cmp y x ≡ ordering_reverse r
turned x y r e = keys_total.antisymm y x ∙ ap ordering_reverse e

-- a key below all is below each
below_at : (x : Key) (es : Changes) (i : ℕ) (d : Key × Option Row) → T (below_all key_cmp x es) → i < length es → key_cmp x (slice_index_or es i d).0 ≡ Less
below_at x [] i d h l = absurd (omega arith)
below_at x (e ∷ es) zero d h l = less (key_cmp x e.0) (first_of _ (below_all key_cmp x es) h)
below_at x (e ∷ es) (suc i) d h l = below_at x es i d (second_of (is_lt (key_cmp x e.0)) _ h) (omega arith)

-- ---- the comparisons with a key do not fall along changes in order

rises : (es : Changes) (i : ℕ) (d : Key × Option Row) → T (is_sorted key_cmp es) → suc i < length es → is_lt (key_cmp (slice_index_or es (suc i) d).0 (slice_index_or es i d).0) ≡ false
rises [] i d h l = absurd (omega arith)
rises (e ∷ es) zero d h l = ap is_lt (turned e.0 (slice_index_or es zero d).0 Less (below_at e.0 es zero d (first_of _ (is_sorted key_cmp es) h) (omega arith)))
rises (e ∷ es) (suc i) d h l = rises es i d (second_of (below_all key_cmp e.0 es) _ h) (omega arith)

pub searchable : (k : Key) (es : Changes) → AreInOrder es → IsNonDecreasingBy (λ y. ordering_index (key_cmp y.0 k)) es
searchable k es order = searchable_from_sorted keys_total (λ (y : Key × Option Row). y.0) es k (λ i d f l.
    let next : suc i ≡ i + 1 = omega arith in
    subst (λ j. is_lt (key_cmp (slice_index_or es j d).0 (slice_index_or es i d).0) ≡ false) next (rises es i d (sorted es order) (omega arith)))

module _ (k : Key) (row : Option Row) where
  -- the changes with the key first, there, or later
  abbrev placed : Key × Option Row → Changes → Ordering → Changes
  placed e es r = by_order r ((k, row) ∷ e ∷ es) (e ∷ es) (e ∷ put_first k row es)

  -- ---- the key stands at a place

  -- the first key is below k, where k stands later
  first_below : (e : Key × Option Row) (es : Changes) (i : ℕ) → T (below_all key_cmp e.0 es) → i < length es → HoldsAt (λ y. key_cmp y.0 k ≡ Equal) es i → key_cmp k e.0 ≡ Greater
  first_below e es i h l t = turned e.0 k Less (subst (λ z. key_cmp e.0 z ≡ Less) (exact_keys (slice_index_or es i e).0 k (t e)) (below_at e.0 es i e h l))

  at_place : (es : Changes) (i : ℕ) → T (is_sorted key_cmp es) → i < length es → HoldsAt (λ y. key_cmp y.0 k ≡ Equal) es i → put_first k row es ≡ es
  at_place [] i h l t = absurd (omega arith)
  at_place (e ∷ es) zero h l t = ap (placed e es) (turned e.0 k Equal (t e))
  at_place (e ∷ es) (suc i) h l t =
      let later : HoldsAt (λ y. key_cmp y.0 k ≡ Equal) es i = λ d. t d in
      ap (placed e es) (first_below e es i (first_of _ (is_sorted key_cmp es) h) (omega arith) later)
      ∙ ap (λ ys. e ∷ ys) (at_place es i (second_of (below_all key_cmp e.0 es) _ h) (omega arith) later)

  pub put_first-place : (es : Changes) (i : ℕ) → AreInOrder es → i < length es → HoldsAt (λ y. key_cmp y.0 k ≡ Equal) es i → put_first k row es ≡ es
  put_first-place es i order l t = at_place es i (sorted es order) l t

  -- ---- the key stands nowhere, and the place is its gap

  abbrev Below : Changes → ℕ → Type 0
  Below es i = AllWithin (λ y. key_cmp y.0 k ≡ Less) es 0 i

  abbrev Above : Changes → ℕ → Type 0
  Above es i = AllWithin (λ y. key_cmp y.0 k ≡ Greater) es i (length es)

  pub insert-gap : (es : Changes) (i : ℕ) → i ≤ length es → Below es i → Above es i → insert es i (k, row) ≡ put_first k row es
  insert-gap [] zero l b a = refl
  insert-gap [] (suc i) l b a = absurd (omega arith)
  insert-gap (e ∷ es) zero l b a = sym (ap (placed e es) (turned e.0 k Greater (a zero e (omega arith) (omega arith))))
  insert-gap (e ∷ es) (suc i) l b a =
      ap (λ ys. e ∷ ys) (insert-gap es i (omega arith) (λ j d f g. b (suc j) d (omega arith) (omega arith)) (λ j d f g. a (suc j) d (omega arith) (omega arith)))
      ∙ sym (ap (placed e es) (turned e.0 k Less (b zero e (omega arith) (omega arith))))
