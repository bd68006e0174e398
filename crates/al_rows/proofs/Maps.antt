-- Finite maps under changes: what a map over a map has, and how a sum over all entries moves.
use Rattle.std.proofs.Common.{◌≡◌, ℕ, ◌+◌, ◌*◌, ◌≤◌, mul-zero, mul-add, refl, sym, ap, ap₂, ◌∙◌, subst, List, [], ◌∷◌, Ordering, Less, Equal, Greater, Option, Some, None, Bool, true, false, cond, not, T, arith, sum_by, is_eq, is_lt, ◌&&◌, All, IfSome, option_map}
use Rattle.std.specs.Ordering.{eq_by_cmp, ordering_reverse}
use Rattle.std.specs.Cmp.{IsTotalOrder, tied_itself, alike_right, eq_by_cmp_equiv}
use Rattle.std.specs.Map.{lookup}
use Rattle.std.specs.BTreeMap.{is_at}
use Rattle.std.proofs.lemmas.List.Sums.{sum_by-cons}
use Rattle.std.proofs.lemmas.List.Elements.{recursion_from_All}
use Rattle.std.specs.List.{AllByRecursion}
use Rattle.std.specs.FinMap as map
use mathlib.Core.List as list
use Rattle.std.specs.FinMap.{FinMap, IsAntisymmetric, find, put, is_sorted, entries-insert, entries_sorted, get-insert, get-remove, get-entries, same_map, from_sorted, get-from_sorted, entries-from_sorted}
use Rattle.std.specs.FinMap.Entries.{by_order, where_key, below_all, is_sorted-where_key, find-where_key}
use Rattle.al_rows.specs.Finite.{set_at, overlaid, or_below, weight, total, map_entries}

equal : (r : Ordering) → is_eq r ≡ true → r ≡ Equal
equal Less p = cc
equal Equal p = refl
equal Greater p = cc

sum_cons : {K X : Type 0} (f : K × X → ℕ) (e : K × X) (es : List (K × X)) → sum_by f (e ∷ es) ≡ f e + sum_by f es
sum_cons f e es = sum_by-cons f e es

module _ {K X : Type 0} {R : K → K → Ordering} (o : IsTotalOrder R) (exact : IsAntisymmetric R) where
  -- where the first key is above q, none is q
  none_above : (q x : K) (es : List (K × X)) → R q x ≡ Less → T (below_all R x es) → find R q es ≡ None
  none_above q x [] p h = refl
  none_above q x (e ∷ es) p h =
      elim (R x e.0) as (λ r. R x e.0 ≡ r → T (is_lt r && below_all R x es) → cond (eq_by_cmp R q e.0) (Some e.1) (find R q es) ≡ None) [
        | Less ↦ λ l s. ap (λ r. cond (is_eq r) (Some e.1) (find R q es)) (o.trans q x e.0 p l) ∙ none_above q x es p s
        | Equal ↦ λ l s. absurd s
        | Greater ↦ λ l s. absurd s
      ] refl h

  none_tied : (q x : K) (es : List (K × X)) → R q x ≡ Equal → T (below_all R x es) → find R q es ≡ None
  none_tied q x es p h = subst (λ k. find R k es ≡ None) (sym (exact q x p)) (none_itself x es h)
    where
      none_itself : (x : K) (es : List (K × X)) → T (below_all R x es) → find R x es ≡ None
      none_itself x [] h = refl
      none_itself x (e ∷ es) h =
          elim (R x e.0) as (λ r. T (is_lt r && below_all R x es) → cond (is_eq r) (Some e.1) (find R x es) ≡ None) [
            | Less ↦ λ s. none_itself x es s
            | Equal ↦ λ s. absurd s
            | Greater ↦ λ s. absurd s
          ] h

both_first : (a b : Bool) → T (a && b) → T a
both_first true b p = tt
both_first false b p = p

both_second : (a b : Bool) → T (a && b) → T b
both_second true b p = p
both_second false b p = absurd p

add_front : (a s t : ℕ) (x y : ℕ) → s + x ≡ t + y → (a + s) + x ≡ (a + t) + y
add_front a s t x y e = omega arith

turned : {A : Type 0} (b : Bool) (x y : A) → cond (not b) x y ≡ cond b y x
turned true x y = refl
turned false x y = refl

module _ {K X : Type 0} {R : K → K → Ordering} (o : IsTotalOrder R) (exact : IsAntisymmetric R) where
  pub entries-remove : (m : FinMap R X) (k : K) → map.entries (map.remove m k) ≡ where_key R (λ x. not (eq_by_cmp R k x)) (map.entries m)
  entries-remove m k =
      let es = where_key R (λ x. not (eq_by_cmp R k x)) (map.entries m) in
      let sorted = is_sorted-where_key R (λ x. not (eq_by_cmp R k x)) (map.entries m) (entries_sorted m) in
      let same : map.remove m k ≡ from_sorted es = same_map o exact (map.remove m k) (from_sorted es) (λ q.
      get-remove o m k q
      ∙ ap (λ b. cond b None (map.get m q)) (sym ((eq_by_cmp_equiv o).symm k q))
      ∙ sym (turned (eq_by_cmp R k q) (map.get m q) None)
      ∙ ap (λ z. cond (not (eq_by_cmp R k q)) z None) (get-entries m q)
      ∙ sym (find-where_key R (λ x. not (eq_by_cmp R k x)) q (λ x t. ap (λ r. not (is_eq r)) (sym (alike_right o q x k t))) (map.entries m))
      ∙ sym (get-from_sorted R es q sorted)) in
      ap map.entries same ∙ entries-from_sorted R es sorted

module _ {K X : Type 0} {R : K → K → Ordering} (o : IsTotalOrder R) (exact : IsAntisymmetric R) (w : K → X → ℕ) where
  abbrev each : K × X → ℕ
  each e = w e.0 e.1

  sum-put : (k : K) (v : X) (es : List (K × X)) → T (is_sorted R es) → sum_by (λ (e : K × X). w e.0 e.1) (put R k v es) + weight w k (find R k es) ≡ sum_by (λ (e : K × X). w e.0 e.1) es + w k v
  sum-put k v [] h = omega arith
  sum-put k v (e ∷ es) h =
      let f = λ (e : K × X). w e.0 e.1 in
      let below = both_first (below_all R e.0 es) _ h in
      elim (R k e.0) as (λ r. R k e.0 ≡ r → sum_by f (by_order r ((k, v) ∷ e ∷ es) ((e.0, v) ∷ es) (e ∷ put R k v es)) + weight w k (cond (is_eq r) (Some e.1) (find R k es)) ≡ sum_by f (e ∷ es) + w k v) [
        | Less ↦ λ p. ap (λ z. sum_by f ((k, v) ∷ e ∷ es) + weight w k z) (none_above o exact k e.0 es p below) ∙ (let a = sum_cons f (k, v) (e ∷ es) in omega arith)
        | Equal ↦ λ p. subst (λ z. sum_by f ((e.0, v) ∷ es) + w z e.1 ≡ sum_by f (e ∷ es) + w z v) (sym (exact k e.0 p)) (let a = sum_cons f (e.0, v) es in let b = sum_cons f e es in omega arith)
        | Greater ↦ λ p. (let a = sum_cons f e (put R k v es) in let b = sum_cons f e es in let c = sum-put k v es (both_second (below_all R e.0 es) _ h) in omega arith)
      ] refl

  sum-where : (k : K) (es : List (K × X)) → T (is_sorted R es) → sum_by (λ (e : K × X). w e.0 e.1) (where_key R (λ x. not (eq_by_cmp R k x)) es) + weight w k (find R k es) ≡ sum_by (λ (e : K × X). w e.0 e.1) es
  sum-where k [] h = refl
  sum-where k (e ∷ es) h =
      let f = λ (e : K × X). w e.0 e.1 in
      let left = where_key R (λ x. not (eq_by_cmp R k x)) es in
      let below = both_first (below_all R e.0 es) _ h in
      let rest = sum-where k es (both_second (below_all R e.0 es) _ h) in
      let b = sum_cons f e es in
      elim (R k e.0) as (λ r. R k e.0 ≡ r → sum_by f (cond (not (is_eq r)) (e ∷ left) left) + weight w k (cond (is_eq r) (Some e.1) (find R k es)) ≡ sum_by f (e ∷ es)) [
        | Less ↦ λ p. (let a = sum_cons f e left in omega arith)
        | Equal ↦ λ p. subst (λ z. sum_by f left + w z e.1 ≡ sum_by f (e ∷ es)) (sym (exact k e.0 p)) (let c : sum_by f left ≡ sum_by f es = omega (arith, subst (λ z. sum_by f left + weight w k z ≡ sum_by f es) (none_tied o exact k e.0 es p below) rest) in omega arith)
        | Greater ↦ λ p. (let a = sum_cons f e left in omega arith)
      ] refl

  pub total-insert : (m : FinMap R X) (k : K) (v : X) → total w (map.insert m k v) + weight w k (map.get m k) ≡ total w m + w k v
  total-insert m k v = ap₂ (λ es z. sum_by (λ (e : K × X). w e.0 e.1) es + weight w k z) (entries-insert o m k v) (get-entries m k) ∙ sum-put k v (map.entries m) (entries_sorted m)

  pub total-remove : (m : FinMap R X) (k : K) → total w (map.remove m k) + weight w k (map.get m k) ≡ total w m
  total-remove m k = ap₂ (λ es z. sum_by (λ (e : K × X). w e.0 e.1) es + weight w k z) (entries-remove o exact m k) (get-entries m k) ∙ sum-where k (map.entries m) (entries_sorted m)

  pub total-set_at : (m : FinMap R X) (k : K) (v : Option X) → total w (set_at m k v) + weight w k (map.get m k) ≡ total w m + weight w k v
  total-set_at m k None = total-remove m k ∙ omega arith
  total-set_at m k (Some v) = total-insert m k v

  pub weight-le-total : (m : FinMap R X) (k : K) → weight w k (map.get m k) ≤ total w m
  weight-le-total m k = omega (arith, total-remove m k)

module _ {K X : Type 0} {R : K → K → Ordering} (o : IsTotalOrder R) where
  pub get-set_at : (m : FinMap R X) (k : K) (v : Option X) (q : K) → map.get (set_at m k v) q ≡ cond (eq_by_cmp R q k) v (map.get m q)
  get-set_at m k None q = get-remove o m k q
  get-set_at m k (Some v) q = get-insert o m k v q

  pub get-overlaid : (es : List (K × Option X)) (m : FinMap R X) (q : K) → map.get (overlaid es m) q ≡ or_below (find R q es) (map.get m q)
  get-overlaid [] m q = refl
  get-overlaid (e ∷ es) m q = get-set_at (overlaid es m) e.0 e.1 q
      ∙ elim (eq_by_cmp R q e.0) as (λ b. cond b e.1 (map.get (overlaid es m) q) ≡ or_below (cond b (Some e.1) (find R q es)) (map.get m q)) [ true ↦ refl | false ↦ get-overlaid es m q ]

  -- a look-up in a BTreeMap's entries
  pub find-lookup : (es : List (K × X)) (q : K) → find R q es ≡ lookup (is_at (R q)) es
  find-lookup [] q = refl
  find-lookup (e ∷ es) q = ap (cond (is_at (R q) e.0) (Some e.1)) (find-lookup es q)

-- what holds of each entry's value holds of what a look-up finds
module _ {K X : Type 0} (P : X → Type 0) (test : K → Bool) where
  by_entry : (es : List (K × X)) → AllByRecursion (λ e. P e.1) es → IfSome (lookup test es) P
  by_entry [] h = tt
  by_entry (e ∷ es) h = elim (test e.0) as (λ b. IfSome (cond b (Some e.1) (lookup test es)) P) [ true ↦ h.0 | false ↦ by_entry es h.1 ]

  pub IfSome-lookup : (es : List (K × X)) → All (λ e. P e.1) es → IfSome (lookup test es) P
  IfSome-lookup es h = by_entry es (recursion_from_All (λ (e : K × X). P e.1) es h)

module _ {K X Y : Type 0} {R : K → K → Ordering} (exact : IsAntisymmetric R) (f : K → X → Y) where
  below-mapped : (k : K) (es : List (K × X)) → below_all R k (list.map (λ e. (e.0, f e.0 e.1)) es) ≡ below_all R k es
  below-mapped k [] = refl
  below-mapped k (e ∷ es) = ap (λ b. is_lt (R k e.0) && b) (below-mapped k es)

  sorted-mapped : (es : List (K × X)) → is_sorted R (list.map (λ e. (e.0, f e.0 e.1)) es) ≡ is_sorted R es
  sorted-mapped [] = refl
  sorted-mapped (e ∷ es) = ap₂ (λ a b. a && b) (below-mapped e.0 es) (sorted-mapped es)

  find-mapped : (q : K) (es : List (K × X)) → find R q (list.map (λ e. (e.0, f e.0 e.1)) es) ≡ option_map (f q) (find R q es)
  find-mapped q [] = refl
  find-mapped q (e ∷ es) =
      elim (R q e.0) as (λ r. R q e.0 ≡ r → cond (is_eq r) (Some (f e.0 e.1)) (find R q (list.map (λ e. (e.0, f e.0 e.1)) es)) ≡ option_map (f q) (cond (is_eq r) (Some e.1) (find R q es))) [
        | Less ↦ λ _. find-mapped q es
        | Equal ↦ λ p. ap (λ k. Some (f k e.1)) (sym (exact q e.0 p))
        | Greater ↦ λ _. find-mapped q es
      ] refl

  pub get-map_entries : (m : FinMap R X) (q : K) → map.get (map_entries f m) q ≡ option_map (f q) (map.get m q)
  unfolding map_entries
  get-map_entries m q =
      get-from_sorted R _ q (subst T (sym (sorted-mapped (map.entries m))) (entries_sorted m))
      ∙ find-mapped q (map.entries m) ∙ ap (option_map (f q)) (sym (get-entries m q))

  pub entries-map_entries : (m : FinMap R X) → map.entries (map_entries f m) ≡ list.map (λ e. (e.0, f e.0 e.1)) (map.entries m)
  unfolding map_entries
  entries-map_entries m = entries-from_sorted R _ (subst T (sym (sorted-mapped (map.entries m))) (entries_sorted m))

-- ---- sums of two weights, and weights that agree at each entry

sum-plus : {A : Type 0} (f g : A → ℕ) (xs : List A) → sum_by (λ x. f x + g x) xs ≡ sum_by f xs + sum_by g xs
sum-plus f g [] = refl
sum-plus f g (x ∷ xs) =
    let a = sum_by-cons (λ x. f x + g x) x xs in
    let b = sum_by-cons f x xs in
    let c = sum_by-cons g x xs in
    let d = sum-plus f g xs in
    omega arith

sum-same : {A : Type 0} (f g : A → ℕ) (xs : List A) → AllByRecursion (λ x. f x ≡ g x) xs → sum_by f xs ≡ sum_by g xs
sum-same f g [] h = refl
sum-same f g (x ∷ xs) h = sum_by-cons f x xs ∙ ap₂ (λ a b. a + b) h.0 (sum-same f g xs h.1) ∙ sym (sum_by-cons g x xs)

sum-times : {A : Type 0} (c : ℕ) (f : A → ℕ) (xs : List A) → sum_by (λ x. c * f x) xs ≡ c * sum_by f xs
sum-times c f [] = sym (mul-zero c)
sum-times c f (x ∷ xs) = sum_by-cons (λ x. c * f x) x xs ∙ ap (λ n. c * f x + n) (sum-times c f xs) ∙ sym (mul-add c (f x) (sum_by f xs)) ∙ ap (λ n. c * n) (sym (sum_by-cons f x xs))

less : (r : Ordering) → T (is_lt r) → r ≡ Less
less Less h = refl
less Equal h = absurd h
less Greater h = absurd h

all_more : {A : Type 0} {P Q : A → Type 0} (xs : List A) → ((x : A) → P x → Q x) → AllByRecursion P xs → AllByRecursion Q xs
all_more [] f h = tt
all_more (x ∷ xs) f h = (f x h.0, all_more xs f h.1)

module _ {K X : Type 0} {R : K → K → Ordering} (o : IsTotalOrder R) where
  later : (e : K × X) (es xs : List (K × X)) → T (below_all R e.0 xs) → AllByRecursion (λ x. find R x.0 es ≡ Some x.1) xs → AllByRecursion (λ x. find R x.0 (e ∷ es) ≡ Some x.1) xs
  later e es [] h a = tt
  later e es (x ∷ xs) h a =
      let turned : R x.0 e.0 ≡ Greater = o.antisymm x.0 e.0 ∙ ap ordering_reverse (less (R e.0 x.0) (both_first (is_lt (R e.0 x.0)) (below_all R e.0 xs) h)) in
      (ap (λ r. cond (is_eq r) (Some e.1) (find R x.0 es)) turned ∙ a.0, later e es xs (both_second (is_lt (R e.0 x.0)) (below_all R e.0 xs) h) a.1)

  -- in a list in the order of keys each entry is found under its key
  pub entries_found : (es : List (K × X)) → T (is_sorted R es) → AllByRecursion (λ e. find R e.0 es ≡ Some e.1) es
  entries_found [] h = tt
  entries_found (e ∷ es) h =
      (ap (λ r. cond (is_eq r) (Some e.1) (find R e.0 es)) (tied_itself o e.0), later e es es (both_first (below_all R e.0 es) (is_sorted R es) h) (entries_found es (both_second (below_all R e.0 es) (is_sorted R es) h)))

  pub total-plus : (f g : K → X → ℕ) (m : FinMap R X) → total (λ k x. f k x + g k x) m ≡ total f m + total g m
  total-plus f g m = sum-plus (λ (e : K × X). f e.0 e.1) (λ (e : K × X). g e.0 e.1) (map.entries m)

  -- weights that agree at what the map has
  pub total-same : (f g : K → X → ℕ) (m : FinMap R X) → ((k : K) (x : X) → map.get m k ≡ Some x → f k x ≡ g k x) → total f m ≡ total g m
  total-same f g m h = sum-same (λ (e : K × X). f e.0 e.1) (λ (e : K × X). g e.0 e.1) (map.entries m) (all_more (map.entries m) (λ e is. h e.0 e.1 (get-entries m e.0 ∙ is)) (entries_found (map.entries m) (entries_sorted m)))

  pub total-times : (c : ℕ) (f : K → X → ℕ) (m : FinMap R X) → total (λ k x. c * f k x) m ≡ c * total f m
  total-times c f m = sum-times c (λ (e : K × X). f e.0 e.1) (map.entries m)
