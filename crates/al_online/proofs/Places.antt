-- Where a key stands in a list in the order of keys, and what an edit at that place does.
use Rattle.std.proofs.Common.{◌≡◌, ◌∙◌, ℕ, zero, suc, ◌+◌, ◌<◌, ◌≤◌, refl, sym, ap, subst, List, [], ◌∷◌, length, set, Ordering, Less, Equal, Greater, Option, Some, None, Bool, true, false, cond, not, T, is_eq, is_lt, ◌&&◌, slice_get, arith}
use Rattle.std.specs.Prelude.{slice_index_or}
use Rattle.std.specs.Ordering.{eq_by_cmp, ordering_reverse, ordering_index}
use Rattle.std.specs.Cmp.{IsTotalOrder}
use Rattle.std.proofs.lemmas.List.Sorted.{searchable_from_sorted}
use Rattle.std.specs.List.{insert, remove, HoldsAt, AllWithin}
use Rattle.std.specs.List.Sorted.{IsNonDecreasingBy}
use Rattle.std.specs.FinMap.{IsAntisymmetric, find, put, is_sorted}
use Rattle.std.specs.FinMap.Entries.{by_order, where_key, below_all}

both_first : (a b : Bool) → T (a && b) → T a
both_first true b p = tt
both_first false b p = p

both_second : (a b : Bool) → T (a && b) → T b
both_second true b p = p
both_second false b p = absurd p

less : (r : Ordering) → T (is_lt r) → r ≡ Less
less Less p = refl
less Equal p = absurd p
less Greater p = absurd p

turned : {K : Type 0} {R : K → K → Ordering} → IsTotalOrder R → (x y : K) (r : Ordering) → R x y ≡ r → R y x ≡ ordering_reverse r
turned o x y r e = o.antisymm y x ∙ ap ordering_reverse e

-- a key before another that is tied with k is below k
before : {K : Type 0} (R : K → K → Ordering) → IsAntisymmetric R → (x y k : K) → R x y ≡ Less → R y k ≡ Equal → R x k ≡ Less
before R exact x y k l t = subst (λ z. R x z ≡ Less) (exact y k t) l

module _ {K X : Type 0} {R : K → K → Ordering} (o : IsTotalOrder R) (exact : IsAntisymmetric R) where
  -- a key below all is below each
  below_at : (x : K) (es : List (K × X)) (i : ℕ) (d : K × X) → T (below_all R x es) → i < length es → R x (slice_index_or es i d).0 ≡ Less
  below_at x [] i d h l = absurd (omega arith)
  below_at x (e ∷ es) zero d h l = less (R x e.0) (both_first _ _ h)
  below_at x (e ∷ es) (suc i) d h l = below_at x es i d (both_second _ _ h) (omega arith)

  -- a key below all is none of them
  none_below : (k : K) (es : List (K × X)) → T (below_all R k es) → where_key R (λ x. not (eq_by_cmp R k x)) es ≡ es
  none_below k [] h = refl
  none_below k (e ∷ es) h =
      ap (λ r. cond (not (is_eq r)) (e ∷ where_key R (λ x. not (eq_by_cmp R k x)) es) (where_key R (λ x. not (eq_by_cmp R k x)) es)) (less (R k e.0) (both_first _ _ h))
      ∙ ap (λ ys. e ∷ ys) (none_below k es (both_second _ _ h))

  module _ (k : K) where
    abbrev without : List (K × X) → List (K × X)
    without es = where_key R (λ x. not (eq_by_cmp R k x)) es

    -- the first key is below k, where k stands later
    first_below : (e : K × X) (es : List (K × X)) (i : ℕ) → T (is_sorted R (e ∷ es)) → i < length es → HoldsAt (λ y. R y.0 k ≡ Equal) es i → R k e.0 ≡ Greater
    first_below e es i h l t = turned o e.0 k Less (before R exact e.0 (slice_index_or es i e).0 k (below_at e.0 es i e (both_first _ _ h) l) (t e))

    -- ---- k stands at the place

    pub find-place : (es : List (K × X)) (i : ℕ) (d : K × X) → T (is_sorted R es) → i < length es → HoldsAt (λ y. R y.0 k ≡ Equal) es i → Some (slice_index_or es i d).1 ≡ find R k es
    find-place [] i d h l t = absurd (omega arith)
    find-place (e ∷ es) zero d h l t = sym (ap (λ r. cond (is_eq r) (Some e.1) (find R k es)) (turned o e.0 k Equal (t e)))
    find-place (e ∷ es) (suc i) d h l t =
        let later : HoldsAt (λ y. R y.0 k ≡ Equal) es i = λ c. t c in
        find-place es i d (both_second _ _ h) (omega arith) later
        ∙ sym (ap (λ r. cond (is_eq r) (Some e.1) (find R k es)) (first_below e es i h (omega arith) later))

    pub set-place : (es : List (K × X)) (i : ℕ) (v : X) → T (is_sorted R es) → i < length es → HoldsAt (λ y. R y.0 k ≡ Equal) es i → set es i (k, v) ≡ put R k v es
    set-place [] i v h l t = absurd (omega arith)
    set-place (e ∷ es) zero v h l t =
        ap (λ x. (x, v) ∷ es) (sym (exact e.0 k (t e)))
        ∙ sym (ap (λ r. by_order r ((k, v) ∷ e ∷ es) ((e.0, v) ∷ es) (e ∷ put R k v es)) (turned o e.0 k Equal (t e)))
    set-place (e ∷ es) (suc i) v h l t =
        let later : HoldsAt (λ y. R y.0 k ≡ Equal) es i = λ c. t c in
        ap (λ ys. e ∷ ys) (set-place es i v (both_second _ _ h) (omega arith) later)
        ∙ sym (ap (λ r. by_order r ((k, v) ∷ e ∷ es) ((e.0, v) ∷ es) (e ∷ put R k v es)) (first_below e es i h (omega arith) later))

    pub remove-place : (es : List (K × X)) (i : ℕ) → T (is_sorted R es) → i < length es → HoldsAt (λ y. R y.0 k ≡ Equal) es i → remove es i ≡ without es
    remove-place [] i h l t = absurd (omega arith)
    remove-place (e ∷ es) zero h l t =
        sym (none_below k es (subst (λ x. T (below_all R x es)) (exact e.0 k (t e)) (both_first _ _ h)))
        ∙ sym (ap (λ r. cond (not (is_eq r)) (e ∷ without es) (without es)) (turned o e.0 k Equal (t e)))
    remove-place (e ∷ es) (suc i) h l t =
        let later : HoldsAt (λ y. R y.0 k ≡ Equal) es i = λ c. t c in
        ap (λ ys. e ∷ ys) (remove-place es i (both_second _ _ h) (omega arith) later)
        ∙ sym (ap (λ r. cond (not (is_eq r)) (e ∷ without es) (without es)) (first_below e es i h (omega arith) later))

    -- ---- k stands nowhere, and the place is its gap

    abbrev Below : List (K × X) → ℕ → Type 0
    Below es i = AllWithin (λ y. R y.0 k ≡ Less) es 0 i

    abbrev Above : List (K × X) → ℕ → Type 0
    Above es i = AllWithin (λ y. R y.0 k ≡ Greater) es i (length es)

    later_above : (e : K × X) (es : List (K × X)) → Above (e ∷ es) zero → Above es zero
    later_above e es a j d f l = a (suc j) d (omega arith) (omega arith)

    pub find-gap : (es : List (K × X)) (i : ℕ) → i ≤ length es → Below es i → Above es i → None ≡ find R k es
    find-gap [] i l b a = refl
    find-gap (e ∷ es) zero l b a =
        find-gap es zero (omega arith) (λ j d f g. absurd (omega arith)) (later_above e es a)
        ∙ sym (ap (λ r. cond (is_eq r) (Some e.1) (find R k es)) (turned o e.0 k Greater (a zero e (omega arith) (omega arith))))
    find-gap (e ∷ es) (suc i) l b a =
        find-gap es i (omega arith) (λ j d f g. b (suc j) d (omega arith) (omega arith)) (λ j d f g. a (suc j) d (omega arith) (omega arith))
        ∙ sym (ap (λ r. cond (is_eq r) (Some e.1) (find R k es)) (turned o e.0 k Less (b zero e (omega arith) (omega arith))))

    pub without-gap : (es : List (K × X)) (i : ℕ) → i ≤ length es → Below es i → Above es i → es ≡ without es
    without-gap [] i l b a = refl
    without-gap (e ∷ es) zero l b a =
        ap (λ ys. e ∷ ys) (without-gap es zero (omega arith) (λ j d f g. absurd (omega arith)) (later_above e es a))
        ∙ sym (ap (λ r. cond (not (is_eq r)) (e ∷ without es) (without es)) (turned o e.0 k Greater (a zero e (omega arith) (omega arith))))
    without-gap (e ∷ es) (suc i) l b a =
        ap (λ ys. e ∷ ys) (without-gap es i (omega arith) (λ j d f g. b (suc j) d (omega arith) (omega arith)) (λ j d f g. a (suc j) d (omega arith) (omega arith)))
        ∙ sym (ap (λ r. cond (not (is_eq r)) (e ∷ without es) (without es)) (turned o e.0 k Less (b zero e (omega arith) (omega arith))))

    pub insert-gap : (es : List (K × X)) (i : ℕ) (v : X) → i ≤ length es → Below es i → Above es i → insert es i (k, v) ≡ put R k v es
    insert-gap [] zero v l b a = refl
    insert-gap [] (suc i) v l b a = absurd (omega arith)
    insert-gap (e ∷ es) zero v l b a =
        sym (ap (λ r. by_order r ((k, v) ∷ e ∷ es) ((e.0, v) ∷ es) (e ∷ put R k v es)) (turned o e.0 k Greater (a zero e (omega arith) (omega arith))))
    insert-gap (e ∷ es) (suc i) v l b a =
        ap (λ ys. e ∷ ys) (insert-gap es i v (omega arith) (λ j d f g. b (suc j) d (omega arith) (omega arith)) (λ j d f g. a (suc j) d (omega arith) (omega arith)))
        ∙ sym (ap (λ r. by_order r ((k, v) ∷ e ∷ es) ((e.0, v) ∷ es) (e ∷ put R k v es)) (turned o e.0 k Less (b zero e (omega arith) (omega arith))))

  -- ---- the comparisons with a key do not fall along a list in order

  rises : (es : List (K × X)) (i : ℕ) (d : K × X) → T (is_sorted R es) → suc i < length es → is_lt (R (slice_index_or es (suc i) d).0 (slice_index_or es i d).0) ≡ false
  rises [] i d h l = absurd (omega arith)
  rises (e ∷ es) zero d h l = ap is_lt (turned o e.0 (slice_index_or es zero d).0 Less (below_at e.0 es zero d (both_first _ _ h) (omega arith)))
  rises (e ∷ es) (suc i) d h l = rises es i d (both_second _ _ h) (omega arith)

  pub searchable : (k : K) (es : List (K × X)) → T (is_sorted R es) → IsNonDecreasingBy (λ y. ordering_index (R y.0 k)) es
  searchable k es h = searchable_from_sorted o (λ (y : K × X). y.0) es k (λ i d f l.
      let next : suc i ≡ i + 1 = omega arith in
      subst (λ j. is_lt (R (slice_index_or es j d).0 (slice_index_or es i d).0) ≡ false) next (rises es i d h (omega arith)))
