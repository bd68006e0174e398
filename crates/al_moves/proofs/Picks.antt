-- What a function picks from entries in the order of their keys.
use Rattle.std.proofs.Common.{◌≡◌, refl, sym, ap, ap₂, ◌∙◌, List, [], ◌∷◌, ◌++◌, map, Option, Some, None, Bool, true, false, true≢false, cond, if◌then◌else◌, Ordering, Less, Equal, Greater, is_eq, option_map}
use Rattle.std.specs.Option.{option_and_then, unwrap_or}
use Rattle.std.specs.List.{AllByRecursion, cons_option, filter_map}
use Rattle.std.specs.List.Sorted.{IsStrictlySortedBy}
use Rattle.std.specs.FinMap.{IsAntisymmetric}
use Rattle.std.specs.Map.{lookup}
use Rattle.std.specs.BTreeMap.{is_at}

is_equal : (r : Ordering) → is_eq r ≡ true → r ≡ Equal
is_equal Less h = absurd (true≢false (sym h))
is_equal Equal h = refl
is_equal Greater h = absurd (true≢false (sym h))

-- ---- a loop that makes the list

module _ {X Y Z : Type 0} (f : X → Option Y) (g : Z → Y) where
  -- one that is not picked is passed over
  pub picked_less : (out : List Z) (x : X) (rest : List X) → None ≡ f x → map g out ++ filter_map f rest ≡ map g out ++ filter_map f (x ∷ rest)
  picked_less out x rest e = ap (λ o. map g out ++ cons_option o (filter_map f rest)) e

module _ {K : Type 0} (c : K → K → Ordering) where
  without_all : (P : K → Type 0) (xs : List K) (y : K) (ys : List K) → AllByRecursion P (xs ++ y ∷ ys) → AllByRecursion P (xs ++ ys)
  without_all P [] y ys h = h.1
  without_all P (x ∷ xs) y ys h = (h.0, without_all P xs y ys h.1)

  -- a list in order stays so where one in the middle goes
  pub ordered_without : (xs : List K) (y : K) (ys : List K) → IsStrictlySortedBy c (xs ++ y ∷ ys) → IsStrictlySortedBy c (xs ++ ys)
  unfolding IsStrictlySortedBy
  ordered_without [] y ys h = h.1
  ordered_without (x ∷ xs) y ys h = (without_all (λ z. c x z ≡ Less) xs y ys h.0, ordered_without xs y ys h.1)

-- ---- a value under a key, where it differs

pub differing_value : {L Y : Type 0} (b : Bool) (k : L) (y : Y) → option_map (λ (p : L × Y). p.1) (if b then None else Some (k, y)) ≡ (if b then None else Some y)
differing_value true k y = refl
differing_value false k y = refl

pub differing_key : {L Y : Type 0} (b : Bool) (k : L) (y : Y) (p : L × Y) → (if b then None else Some (k, y)) ≡ Some p → k ≡ p.0
differing_key true k y p e = cc
differing_key false k y p e = ap (λ o. (unwrap_or o p).0) e

-- ---- look-ups in what was picked

none_below : {K X : Type 0} (R : K → K → Ordering) (k : K) (es : List (K × X)) → AllByRecursion (λ y. R k y ≡ Less) (map (λ e. e.0) es) → lookup (is_at (R k)) es ≡ None
none_below R k [] h = refl
none_below R k (e ∷ es) h = ap (λ r. cond (is_eq r) (Some e.1) (lookup (is_at (R k)) es)) h.0 ∙ none_below R k es h.1

-- entries in the order R give values in the order S, by keys of which some stand for another
module _ {K L X Y : Type 0} (R : K → K → Ordering) (S : L → L → Ordering) (exact : IsAntisymmetric R) (at : L → K) (orders : (a b : L) → R (at a) (at b) ≡ S a b)
    (f : K × X → Option (L × Y)) (place : (e : K × X) (p : L × Y) → f e ≡ Some p → e.0 ≡ at p.0) where
  abbrev pub found : L → Option X → Option Y
  found a o = option_map (λ p. p.1) (option_and_then (λ x. f (at a, x)) o)

  step : (a : L) (e : K × X) (es : List (K × X)) → AllByRecursion (λ y. R e.0 y ≡ Less) (map (λ e. e.0) es)
      → lookup (is_at (S a)) (filter_map f es) ≡ found a (lookup (is_at (R (at a))) es)
      → (t : Bool) → is_at (R (at a)) e.0 ≡ t → (p : Option (L × Y)) → f e ≡ p
      → lookup (is_at (S a)) (cons_option p (filter_map f es)) ≡ found a (cond t (Some e.1) (lookup (is_at (R (at a))) es))
  step a e es below rest true t None p =
      let is : at a ≡ e.0 = exact (at a) e.0 (is_equal _ t) in
      let none : lookup (is_at (R (at a))) es ≡ None = ap (λ k. lookup (is_at (R k)) es) is ∙ none_below R e.0 es below in
      rest ∙ ap (found a) none ∙ sym (ap (option_map (λ (p : L × Y). p.1)) (ap (λ k. f (k, e.1)) is ∙ p))
  step a e es below rest true t (Some q) p =
      let is : at a ≡ e.0 = exact (at a) e.0 (is_equal _ t) in
      let here : is_at (S a) q.0 ≡ true = ap is_eq (sym (orders a q.0) ∙ ap (R (at a)) (sym (place e q p))) ∙ t in
      ap (λ b. cond b (Some q.1) (lookup (is_at (S a)) (filter_map f es))) here
      ∙ sym (ap (option_map (λ (p : L × Y). p.1)) (ap (λ k. f (k, e.1)) is ∙ p))
  step a e es below rest false t None p = rest
  step a e es below rest false t (Some q) p =
      let there : is_at (S a) q.0 ≡ false = ap is_eq (sym (orders a q.0) ∙ ap (R (at a)) (sym (place e q p))) ∙ t in
      ap (λ b. cond b (Some q.1) (lookup (is_at (S a)) (filter_map f es))) there ∙ rest

  pub picked_at : (a : L) (es : List (K × X)) → IsStrictlySortedBy R (map (λ e. e.0) es) → lookup (is_at (S a)) (filter_map f es) ≡ found a (lookup (is_at (R (at a))) es)
  unfolding IsStrictlySortedBy
  picked_at a [] h = refl
  picked_at a (e ∷ es) h = step a e es h.0 (picked_at a es h.1) (is_at (R (at a)) e.0) refl (f e) refl

  below_more : (k : K) (a : L) (e : K × X) (es : List (K × X)) → k ≡ at a → R k e.0 ≡ Less → AllByRecursion (λ b. S a b ≡ Less) (map (λ p. p.0) (filter_map f es))
      → (p : Option (L × Y)) → f e ≡ p → AllByRecursion (λ b. S a b ≡ Less) (map (λ p. p.0) (cons_option p (filter_map f es)))
  below_more k a e es is less rest None p = rest
  below_more k a e es is less rest (Some q) p = (sym (orders a q.0) ∙ ap₂ R (sym is) (sym (place e q p)) ∙ less, rest)

  picked_below : (k : K) (a : L) → k ≡ at a → (es : List (K × X)) → AllByRecursion (λ y. R k y ≡ Less) (map (λ e. e.0) es) → AllByRecursion (λ b. S a b ≡ Less) (map (λ p. p.0) (filter_map f es))
  picked_below k a is [] h = tt
  picked_below k a is (e ∷ es) h = below_more k a e es is h.0 (picked_below k a is es h.1) (f e) refl

  ordered_more : (e : K × X) (es : List (K × X)) → AllByRecursion (λ y. R e.0 y ≡ Less) (map (λ e. e.0) es) → IsStrictlySortedBy S (map (λ p. p.0) (filter_map f es))
      → (p : Option (L × Y)) → f e ≡ p → IsStrictlySortedBy S (map (λ p. p.0) (cons_option p (filter_map f es)))
  unfolding IsStrictlySortedBy
  ordered_more e es below rest None p = rest
  ordered_more e es below rest (Some q) p = (picked_below e.0 q.0 (place e q p) es below, rest)

  pub picked_ordered : (es : List (K × X)) → IsStrictlySortedBy R (map (λ e. e.0) es) → IsStrictlySortedBy S (map (λ p. p.0) (filter_map f es))
  unfolding IsStrictlySortedBy
  picked_ordered [] h = tt
  picked_ordered (e ∷ es) h = ordered_more e es h.0 (picked_ordered es h.1) (f e) refl
