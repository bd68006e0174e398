-- The first of the changed keys is the first of all keys.
use Rattle.std.proofs.Common.{◌≡◌, refl, sym, ap, ◌∙◌, subst, List, [], ◌∷◌, map, Option, Some, None, Bool, true, false, cond, T, IsSome, is_some, ap₂, Ordering, Less, Equal, Greater, is_eq, is_lt, true≢false, option_map, ◌&&◌}
use Rattle.std.specs.Option.{option_or}
use Rattle.std.specs.Ordering.{eq_by_cmp, ordering_reverse}
use Rattle.std.specs.Cmp.{tied_itself}
use Rattle.std.specs.List.{AllByRecursion}
use Rattle.std.specs.List.Sorted.{IsStrictlySortedBy}
use Rattle.std.specs.FinMap.{find, is_sorted}
use Rattle.std.specs.FinMap.Entries.{where_key, below_all, same_entries, find-where_key, is_sorted-where_key}
use Rattle.al_base.specs.declared.key.Key.{Key}
use Rattle.al_base.specs.Keys.{key_cmp}
use Rattle.al_rows.proofs.Keys.{keys_total, exact_keys}
use Rattle.al_rows.specs.Finite.{first_some}

abbrev tagged : {X : Type 0} → List (Key × X) → List (Key × Unit {0})
tagged es = map (λ e. (e.0, tt)) es

find-tagged : {X : Type 0} (q : Key) (es : List (Key × X)) → find key_cmp q (tagged es) ≡ option_map (λ _. tt) (find key_cmp q es)
find-tagged q [] = refl
find-tagged q (e ∷ es) = elim (eq_by_cmp key_cmp q e.0) as (λ b. cond b (Some tt) (find key_cmp q (tagged es)) ≡ option_map (λ _. tt) (cond b (Some e.1) (find key_cmp q es))) [ true ↦ refl | false ↦ find-tagged q es ]

below-tagged : {X : Type 0} (k : Key) (es : List (Key × X)) → below_all key_cmp k (tagged es) ≡ below_all key_cmp k es
below-tagged k [] = refl
below-tagged k (e ∷ es) = ap (λ b. is_lt (key_cmp k e.0) && b) (below-tagged k es)

sorted-tagged : {X : Type 0} (es : List (Key × X)) → is_sorted key_cmp (tagged es) ≡ is_sorted key_cmp es
sorted-tagged [] = refl
sorted-tagged (e ∷ es) = ap₂ (λ a b. a && b) (below-tagged e.0 es) (sorted-tagged es)

-- a list in the order of keys, as a BTreeMap says it and as a finite map does
below : {X : Type 0} (k : Key) (es : List (Key × X)) → AllByRecursion (λ y. key_cmp k y ≡ Less) (map (λ e. e.0) es) → T (below_all key_cmp k es)
below k [] h = tt
below k (e ∷ es) h = subst (λ r. T (is_lt r && below_all key_cmp k es)) (sym h.0) (below k es h.1)

pub both : (a b : Bool) → T a → T b → T (a && b)
both true b p q = q
both false b p q = p

pub sorted : {X : Type 0} (es : List (Key × X)) → IsStrictlySortedBy key_cmp (map (λ e. e.0) es) → T (is_sorted key_cmp es)
unfolding IsStrictlySortedBy
sorted [] h = tt
sorted (e ∷ es) h = both _ _ (below e.0 es h.0) (sorted es h.1)

module _ {B : Type 0} (f : Key → Option B) where
  abbrev passes : Key → Bool
  passes k = is_some (f k)

  step : (k : Key) (o : Option B) (xs : List Key) (es : List (Key × Unit {0})) → f k ≡ o → first_some f xs ≡ first_some f (map (λ e. e.0) es) → option_or (f k) (first_some f xs) ≡ first_some f (map (λ e. e.0) (cond (is_some (f k)) ((k, tt) ∷ es) es))
  step k None xs es is rest = subst (λ o. option_or o (first_some f xs) ≡ first_some f (map (λ e. e.0) (cond (is_some o) ((k, tt) ∷ es) es))) (sym is) rest
  step k (Some x) xs es is rest = ap (λ o. option_or o (first_some f xs)) is ∙ sym (ap (λ b. first_some f (map (λ e. e.0) (cond b ((k, tt) ∷ es) es))) (ap is_some is) ∙ ap (λ o. option_or o (first_some f (map (λ e. e.0) es))) is)

  -- those that do not pass may be left out
  first_passing : {X : Type 0} (es : List (Key × X)) → first_some f (map (λ e. e.0) es) ≡ first_some f (map (λ e. e.0) (where_key key_cmp passes (tagged es)))
  first_passing [] = refl
  first_passing (e ∷ es) = step e.0 (f e.0) (map (λ e. e.0) es) (where_key key_cmp passes (tagged es)) refl (first_passing es)

  alike : (q x : Key) → key_cmp q x ≡ Equal → passes x ≡ passes q
  alike q x t = ap passes (sym (exact_keys q x t))

  only : {X : Type 0} (b : Bool) (o : Option X) → (b ≡ true → IsSome o) → cond {A = Option (Unit {0})} b (option_map (λ _. tt) o) None ≡ cond b (Some tt) None
  only true None h = absurd (true≢false (sym (h refl)))
  only true (Some x) h = refl
  only false o h = refl

  found : {X : Type 0} (es : List (Key × X)) → ((q : Key) → passes q ≡ true → IsSome (find key_cmp q es)) → (q : Key) → find key_cmp q (where_key key_cmp passes (tagged es)) ≡ cond (passes q) (Some tt) None
  found es has q = find-where_key key_cmp passes q (alike q) (tagged es) ∙ ap (λ o. cond (passes q) o None) (find-tagged q es) ∙ only (passes q) (find key_cmp q es) (has q)

  sorted_passing : {X : Type 0} (es : List (Key × X)) → T (is_sorted key_cmp es) → T (is_sorted key_cmp (where_key key_cmp passes (tagged es)))
  sorted_passing es h = is_sorted-where_key key_cmp passes (tagged es) (subst T (sym (sorted-tagged es)) h)

  -- two lists in the order of keys that both have each key at which there is an answer have the same first answer
  pub first_same : {X Y : Type 0} (es : List (Key × X)) (fs : List (Key × Y)) → T (is_sorted key_cmp es) → T (is_sorted key_cmp fs)
      → ((q : Key) → is_some (f q) ≡ true → IsSome (find key_cmp q es)) → ((q : Key) → is_some (f q) ≡ true → IsSome (find key_cmp q fs))
      → first_some f (map (λ e. e.0) es) ≡ first_some f (map (λ e. e.0) fs)
  first_same es fs p q has hat = first_passing es
      ∙ ap (λ (ks : List (Key × Unit {0})). first_some f (map (λ e. e.0) ks)) (same_entries key_cmp keys_total exact_keys _ _ (sorted_passing es p) (sorted_passing fs q) (λ k. found es has k ∙ sym (found fs hat k)))
      ∙ sym (first_passing fs)

pub turned_less : (k q : Key) → key_cmp k q ≡ Less → key_cmp q k ≡ Greater
turned_less k q e = keys_total.antisymm q k ∙ ap ordering_reverse e

pub less : (r : Ordering) → T (is_lt r) → r ≡ Less
less Less h = refl
less Equal h = absurd h
less Greater h = absurd h

pub first_of : (a b : Bool) → T (a && b) → T a
first_of true b p = tt
first_of false b p = p

pub second_of : (a b : Bool) → T (a && b) → T b
second_of true b p = p
second_of false b p = absurd p

pub later : {X : Type 0} (e : Key × X) (es xs : List (Key × X)) → T (below_all key_cmp e.0 xs) → AllByRecursion (λ x. find key_cmp x.0 es ≡ Some x.1) xs → AllByRecursion (λ x. find key_cmp x.0 (e ∷ es) ≡ Some x.1) xs
later e es [] h a = tt
later e es (x ∷ xs) h a = (ap (λ r. cond (is_eq r) (Some e.1) (find key_cmp x.0 es)) (turned_less e.0 x.0 (less _ (first_of _ _ h))) ∙ a.0, later e es xs (second_of (is_lt (key_cmp e.0 x.0)) _ h) a.1)

-- in a list in the order of keys each entry is found under its key
pub each_found : {X : Type 0} (es : List (Key × X)) → T (is_sorted key_cmp es) → AllByRecursion (λ e. find key_cmp e.0 es ≡ Some e.1) es
each_found [] h = tt
each_found (e ∷ es) h = (ap (λ r. cond (is_eq r) (Some e.1) (find key_cmp e.0 es)) (tied_itself keys_total e.0), later e es es (first_of _ _ h) (each_found es (second_of (below_all key_cmp e.0 es) _ h)))

pub first_over : {B X : Type 0} (g : Key × X → Option B) (f : Key → Option B) (es : List (Key × X)) → AllByRecursion (λ e. g e ≡ f e.0) es → first_some g es ≡ first_some f (map (λ e. e.0) es)
first_over g f [] h = refl
first_over g f (e ∷ es) h = ap₂ option_or h.0 (first_over g f es h.1)

pub all_more : {A : Type 0} {P Q : A → Type 0} (es : List A) → ((x : A) → P x → Q x) → AllByRecursion P es → AllByRecursion Q es
all_more [] f h = tt
all_more (x ∷ xs) f h = (f x h.0, all_more xs f h.1)

-- a list in the order of keys, as a finite map says it and as a BTreeMap does
strictly_below : {X : Type 0} (k : Key) (es : List (Key × X)) → T (below_all key_cmp k es) → AllByRecursion (λ y. key_cmp k y ≡ Less) (map (λ e. e.0) es)
strictly_below k [] h = tt
strictly_below k (e ∷ es) h =
    elim (key_cmp k e.0) as (λ r. T (is_lt r && below_all key_cmp k es) → (r ≡ Less) × AllByRecursion (λ y. key_cmp k y ≡ Less) (map (λ e. e.0) es)) [
      | Less ↦ λ s. (refl, strictly_below k es s)
      | Equal ↦ λ s. absurd s
      | Greater ↦ λ s. absurd s
    ] h

both_parts : (a b : Bool) → T (a && b) → T a × T b
both_parts true b p = (tt, p)
both_parts false b p = absurd p

pub strictly : {X : Type 0} (es : List (Key × X)) → T (is_sorted key_cmp es) → IsStrictlySortedBy key_cmp (map (λ e. e.0) es)
unfolding IsStrictlySortedBy
strictly [] h = tt
strictly (e ∷ es) h = let p = both_parts (below_all key_cmp e.0 es) (is_sorted key_cmp es) h in (strictly_below e.0 es p.0, strictly es p.1)
