-- The first rows above a key are rows that may come there.
use Rattle.std.proofs.Common.{◌≡◌, ℕ, zero, suc, ◌-◌, ◌<◌, refl, sym, ap, ap₂, subst, ◌∙◌, List, [], ◌∷◌, ◌++◌, length-append, map, take, filter, length, Ordering, Less, Equal, Greater, Option, Some, None, Bool, true, false, cond, not, T, is_lt, ◌&&◌, IfSome, arith}
use Rattle.std.specs.List.{AllByRecursion}
use Rattle.std.specs.List.Sorted.{IsStrictlySortedBy}
use Rattle.std.specs.FinMap.{FinMap, get, is_sorted, entries, entries_sorted, get-entries}
use Rattle.std.specs.FinMap.Entries.{below_all}
use Rattle.std.specs.BTreeMap.Range.{entries_between}
use Rattle.std.specs.declared.ops.Bound.TheVariants.{Unbounded}
use Rattle.std.proofs.lemmas.List.{length-take, length-map}
use Rattle.std.proofs.lemmas.List.Elements.{All-from_recursion}
use Rattle.al_base.specs.declared.key.Key.{Key}
use Rattle.al_base.specs.Keys.{key_cmp}
use Rattle.al_rows.specs.declared.stored.Keyed.{Keyed}
use Rattle.al_rows.specs.declared.stored.Stored.{Stored}
use Rattle.al_rows.specs.Above.{AreRows, IsStored, bound_of, entries_above, is_above, keyed_of, rows_above}
use Rattle.al_rows.proofs.Keys.{keys_total}
use Rattle.al_rows.proofs.Maps.{entries_found}

lt_true : (r : Ordering) → T (is_lt r) → r ≡ Less
lt_true Less h = refl
lt_true Equal h = absurd h
lt_true Greater h = absurd h

both : (a b : Bool) → T a → T b → T (a && b)
both true b p q = q
both false b p q = p

both_first : (a b : Bool) → T (a && b) → T a
both_first true b p = tt
both_first false b p = p

both_second : (a b : Bool) → T (a && b) → T b
both_second true b p = p
both_second false b p = absurd p

and_true : (b : Bool) → (b && not false) ≡ b
and_true true = refl
and_true false = refl

filter_same : {A : Type 0} (p q : A → Bool) (xs : List A) → ((x : A) → p x ≡ q x) → filter p xs ≡ filter q xs
filter_same p q [] h = refl
filter_same p q (x ∷ xs) h = ap₂ (λ b ys. cond b (x ∷ ys) ys) (h x) (filter_same p q xs h)

-- the entries between this bound and none are those above the key
pub between : {X : Type 0} (after : Option Key) (es : List (Key × X)) → entries_between key_cmp (bound_of after) Unbounded es ≡ filter (λ e. is_above after e.0) es
between None es = refl
between (Some k) es = filter_same (λ e. is_lt (key_cmp k e.0) && not false) (λ e. is_lt (key_cmp k e.0)) es (λ e. and_true (is_lt (key_cmp k e.0)))

below-filter : {X : Type 0} (p : Key → Bool) (k : Key) (es : List (Key × X)) → T (below_all key_cmp k es) → T (below_all key_cmp k (filter (λ e. p e.0) es))
below-filter p k [] h = tt
below-filter {X} p k (e ∷ es) h =
    elim (p e.0) as (λ b. T (below_all key_cmp k (cond b (e ∷ filter (λ (e : Key × X). p e.0) es) (filter (λ (e : Key × X). p e.0) es)))) [
      | true ↦ both (is_lt (key_cmp k e.0)) _ (both_first (is_lt (key_cmp k e.0)) (below_all key_cmp k es) h) (below-filter p k es (both_second (is_lt (key_cmp k e.0)) (below_all key_cmp k es) h))
      | false ↦ below-filter p k es (both_second (is_lt (key_cmp k e.0)) (below_all key_cmp k es) h)
    ]

sorted-filter : {X : Type 0} (p : Key → Bool) (es : List (Key × X)) → T (is_sorted key_cmp es) → T (is_sorted key_cmp (filter (λ e. p e.0) es))
sorted-filter p [] h = tt
sorted-filter {X} p (e ∷ es) h =
    elim (p e.0) as (λ b. T (is_sorted key_cmp (cond b (e ∷ filter (λ (e : Key × X). p e.0) es) (filter (λ (e : Key × X). p e.0) es)))) [
      | true ↦ both (below_all key_cmp e.0 (filter (λ (e : Key × X). p e.0) es)) _ (below-filter p e.0 es (both_first (below_all key_cmp e.0 es) (is_sorted key_cmp es) h)) (sorted-filter p es (both_second (below_all key_cmp e.0 es) (is_sorted key_cmp es) h))
      | false ↦ sorted-filter p es (both_second (below_all key_cmp e.0 es) (is_sorted key_cmp es) h)
    ]

-- the keys of the first of sorted entries rise
below_taken : (n : ℕ) (k : Key) (es : List (Key × Stored)) → T (below_all key_cmp k es) → AllByRecursion (λ y. key_cmp k y ≡ Less) (map (λ (r : Keyed). r.key) (map keyed_of (take n es)))
below_taken zero k es h = tt
below_taken (suc n) k [] h = tt
below_taken (suc n) k (e ∷ es) h = (lt_true (key_cmp k e.0) (both_first (is_lt (key_cmp k e.0)) (below_all key_cmp k es) h), below_taken n k es (both_second (is_lt (key_cmp k e.0)) (below_all key_cmp k es) h))

rising_taken : (n : ℕ) (es : List (Key × Stored)) → T (is_sorted key_cmp es) → IsStrictlySortedBy key_cmp (map (λ (r : Keyed). r.key) (map keyed_of (take n es)))
unfolding IsStrictlySortedBy
rising_taken zero es h = tt
rising_taken (suc n) [] h = tt
rising_taken (suc n) (e ∷ es) h = (below_taken n e.0 es (both_first (below_all key_cmp e.0 es) (is_sorted key_cmp es) h), rising_taken n es (both_second (below_all key_cmp e.0 es) (is_sorted key_cmp es) h))

-- what holds of each entry that is taken
all_taken : (P : Key → Stored → Type 0) (n : ℕ) (es : List (Key × Stored)) → AllByRecursion (λ e. P e.0 e.1) es → AllByRecursion (λ (r : Keyed). P r.key r.stored) (map keyed_of (take n es))
all_taken P zero es h = tt
all_taken P (suc n) [] h = tt
all_taken P (suc n) (e ∷ es) h = (h.0, all_taken P n es h.1)

all_filtered : (p : Key → Bool) (P : Key → Stored → Type 0) (es : List (Key × Stored)) → AllByRecursion (λ e. P e.0 e.1) es → AllByRecursion (λ e. P e.0 e.1) (filter (λ e. p e.0) es)
all_filtered p P [] h = tt
all_filtered p P (e ∷ es) h = elim (p e.0) as (λ b. AllByRecursion (λ (e : Key × Stored). P e.0 e.1) (cond b (e ∷ filter (λ (e : Key × Stored). p e.0) es) (filter (λ (e : Key × Stored). p e.0) es))) [ true ↦ (h.0, all_filtered p P es h.1) | false ↦ all_filtered p P es h.1 ]

all_passing : (p : Key → Bool) (es : List (Key × Stored)) → AllByRecursion (λ (e : Key × Stored). p e.0 ≡ true) (filter (λ e. p e.0) es)
all_passing p [] = tt
all_passing p (e ∷ es) = by_test (p e.0) refl (all_passing p es)
  where
    by_test : (b : Bool) → p e.0 ≡ b → AllByRecursion (λ (e : Key × Stored). p e.0 ≡ true) (filter (λ e. p e.0) es) → AllByRecursion (λ (e : Key × Stored). p e.0 ≡ true) (cond b (e ∷ filter (λ (e : Key × Stored). p e.0) es) (filter (λ (e : Key × Stored). p e.0) es))
    by_test true t rest = (t, rest)
    by_test false t rest = rest

all_more : {A : Type 0} {P Q : A → Type 0} (xs : List A) → ((x : A) → P x → Q x) → AllByRecursion P xs → AllByRecursion Q xs
all_more [] f h = tt
all_more (x ∷ xs) f h = (f x h.0, all_more xs f h.1)

-- each entry of a map whose rows may be stored
pub kept_entries : (m : FinMap key_cmp Stored) → ((q : Key) → IfSome (get m q) (IsStored q)) → AllByRecursion (λ (e : Key × Stored). IsStored e.0 e.1) (entries m)
kept_entries m kept = all_more (entries m) (λ e is. subst (λ o. IfSome o (IsStored e.0)) (get-entries m e.0 ∙ is) (kept e.0)) (entries_found keys_total (entries m) (entries_sorted m))

-- the first of them above a key are rows that may come there
pub rows_are : (after : Option Key) (most : ℕ) (m : FinMap key_cmp Stored) → ((q : Key) → IfSome (get m q) (IsStored q)) → AreRows after most (rows_above after most m)
rows_are after most m kept =
    let es = entries_above after m in
    record {
      few = omega (arith, length-map (take most es) keyed_of, length-take most es);
      rising = rising_taken most es (sorted-filter (is_above after) (entries m) (entries_sorted m));
      above = All-from_recursion (λ (r : Keyed). is_above after r.key ≡ true) (rows_above after most m) (all_taken (λ k s. is_above after k ≡ true) most es (all_passing (is_above after) (entries m)));
      kept = All-from_recursion (λ (r : Keyed). IsStored r.key r.stored) (rows_above after most m) (all_taken IsStored most es (all_filtered (is_above after) IsStored (entries m) (kept_entries m kept)));
    }

append_one : (xs : List Keyed) (x : Keyed) (ys : List Keyed) → (xs ++ x ∷ []) ++ ys ≡ xs ++ x ∷ ys
append_one [] x ys = refl
append_one (z ∷ xs) x ys = ap (λ zs. z ∷ zs) (append_one xs x ys)

-- one row more of those that are taken
pub copied : (most : ℕ) (out : List Keyed) (k : Key) (s : Stored) (es : List (Key × Stored)) → length out < most → (out ++ keyed_of (k, s) ∷ []) ++ map keyed_of (take (most - length (out ++ keyed_of (k, s) ∷ [])) es) ≡ out ++ map keyed_of (take (most - length out) ((k, s) ∷ es))
copied most out k s es room =
    let n = most - length out - 1 in
    let a : most - length (out ++ keyed_of (k, s) ∷ []) ≡ n = omega (arith, length-append out (keyed_of (k, s) ∷ [])) in
    let b : most - length out ≡ suc n = omega arith in
    ap (λ j. (out ++ keyed_of (k, s) ∷ []) ++ map keyed_of (take j es)) a
    ∙ append_one out (keyed_of (k, s)) (map keyed_of (take n es))
    ∙ ap (λ j. out ++ map keyed_of (take j ((k, s) ∷ es))) (sym b)
