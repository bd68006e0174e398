-- Maps whose entries may stand empty: what they hold, and what changes leave of it.
use Rattle.std.proofs.Common.{◌≡◌, refl, sym, ap, subst, ◌∙◌, List, [], ◌∷◌, ◌++◌, map, Ordering, Less, Equal, Greater, Option, Some, None, Bool, true, false, cond, T, is_eq, is_lt, ◌&&◌, IsSome, All}
use Rattle.std.specs.Ordering.{eq_by_cmp}
use Rattle.std.specs.Cmp.{IsTotalOrder, tied_itself, eq_by_cmp_equiv}
use Rattle.std.specs.Map.{lookup}
use Rattle.std.specs.BTreeMap.{is_at}
use Rattle.std.specs.List.{AllByRecursion}
use Rattle.std.proofs.lemmas.List.Elements.{recursion_from_All, All-from_recursion}
use Rattle.std.specs.List.Sorted.{IsStrictlySortedBy}
use Rattle.std.specs.FinMap.{IsAntisymmetric, find, is_sorted, get, entries, from_entries, entries_sorted, get-entries, get-from_entries, same_map}
use Rattle.std.specs.FinMap.Entries.{below_all, same_entries}
use Rattle.al_rows.specs.Finite.{overlaid, or_below}
use Rattle.al_rows.proofs.Maps.{find-lookup, get-overlaid}
use Rattle.al_keeper.specs.Rooms.{flat, and_live, live, slot_at, live_at}

both : (a b : Bool) → T a → T b → T (a && b)
both true b p q = q
both false b p q = p

both_first : (a b : Bool) → T (a && b) → T a
both_first true b p = tt
both_first false b p = p

both_second : (a b : Bool) → T (a && b) → T b
both_second true b p = p
both_second false b p = absurd p

pub equal : (r : Ordering) → is_eq r ≡ true → r ≡ Equal
equal Less p = cc
equal Equal p = refl
equal Greater p = cc

-- ---- entries in the order of keys

module _ {K X : Type 0} (R : K → K → Ordering) where
  below : (k : K) (es : List (K × X)) → AllByRecursion (λ y. R k y ≡ Less) (map (λ e. e.0) es) → T (below_all R k es)
  below k [] h = tt
  below k (e ∷ es) h = subst (λ r. T (is_lt r && below_all R k es)) (sym h.0) (below k es h.1)

  pub sorted : (es : List (K × X)) → IsStrictlySortedBy R (map (λ e. e.0) es) → T (is_sorted R es)
  unfolding IsStrictlySortedBy
  sorted [] h = tt
  sorted (e ∷ es) h = both (below_all R e.0 es) (is_sorted R es) (below e.0 es h.0) (sorted es h.1)

  below-and_live : (k j : K) (v : Option X) (es : List (K × X)) → T (is_lt (R k j)) → T (below_all R k es) → T (below_all R k (and_live j v es))
  below-and_live k j None es p q = q
  below-and_live k j (Some x) es p q = both (is_lt (R k j)) (below_all R k es) p q

  below-live : (k : K) (es : List (K × Option X)) → T (below_all R k es) → T (below_all R k (live es))
  below-live k [] h = tt
  below-live k (e ∷ es) h = below-and_live k e.0 e.1 (live es) (both_first (is_lt (R k e.0)) (below_all R k es) h) (below-live k es (both_second (is_lt (R k e.0)) (below_all R k es) h))

  sorted-and_live : (j : K) (v : Option X) (es : List (K × X)) → T (below_all R j es) → T (is_sorted R es) → T (is_sorted R (and_live j v es))
  sorted-and_live j None es p q = q
  sorted-and_live j (Some x) es p q = both (below_all R j es) (is_sorted R es) p q

  pub sorted-live : (es : List (K × Option X)) → T (is_sorted R es) → T (is_sorted R (live es))
  sorted-live [] h = tt
  sorted-live (e ∷ es) h = sorted-and_live e.0 e.1 (live es) (below-live e.0 es (both_first (below_all R e.0 es) (is_sorted R es) h)) (sorted-live es (both_second (below_all R e.0 es) (is_sorted R es) h))

module _ {K X : Type 0} {R : K → K → Ordering} (o : IsTotalOrder R) (exact : IsAntisymmetric R) where
  none_itself : (x : K) (es : List (K × X)) → T (below_all R x es) → find R x es ≡ None
  none_itself x [] h = refl
  none_itself x (e ∷ es) h =
      elim (R x e.0) as (λ r. T (is_lt r && below_all R x es) → cond (is_eq r) (Some e.1) (find R x es) ≡ None) [
        | Less ↦ λ s. none_itself x es s
        | Equal ↦ λ s. absurd s
        | Greater ↦ λ s. absurd s
      ] h

  find-and_live : (q j : K) (v : Option X) (es : List (K × Option X)) → T (below_all R j (live es)) → find R q (live es) ≡ flat (find R q es) → find R q (and_live j v (live es)) ≡ flat (cond (eq_by_cmp R q j) (Some v) (find R q es))
  find-and_live q j (Some x) es p h = elim (eq_by_cmp R q j) as (λ b. cond b (Some x) (find R q (live es)) ≡ flat (cond b (Some (Some x)) (find R q es))) [ true ↦ refl | false ↦ h ]
  find-and_live q j None es p h = by_test (eq_by_cmp R q j) refl
    where
      by_test : (b : Bool) → eq_by_cmp R q j ≡ b → find R q (live es) ≡ flat (cond b (Some None) (find R q es))
      by_test true e = subst (λ k. find R k (live es) ≡ None) (sym (exact q j (equal (R q j) e))) (none_itself j (live es) p)
      by_test false e = h

  find-live : (q : K) (es : List (K × Option X)) → T (is_sorted R es) → find R q (live es) ≡ flat (find R q es)
  find-live q [] h = refl
  find-live q (e ∷ es) h =
      find-and_live q e.0 e.1 es (below-live R e.0 es (both_first (below_all R e.0 es) (is_sorted R es) h)) (find-live q es (both_second (below_all R e.0 es) (is_sorted R es) h))

  -- what the map of the live entries has under a key
  pub get-live : (es : List (K × Option X)) (q : K) → T (is_sorted R es) → get (from_entries {R = R} (live es)) q ≡ live_at R es q
  get-live es q h = get-from_entries o (live es) q ∙ find-live q es h ∙ ap flat (find-lookup o es q)

  pub entries-live : (es : List (K × Option X)) → T (is_sorted R es) → entries (from_entries {R = R} (live es)) ≡ live es
  entries-live es h = same_entries R o exact _ _ (entries_sorted (from_entries (live es))) (sorted-live R es h) (λ q. sym (get-entries (from_entries (live es)) q) ∙ get-from_entries o (live es) q)

  -- the map stays where nothing changes under any key
  pub stays : (old new : List (K × Option X)) → T (is_sorted R old) → T (is_sorted R new) → ((q : K) → live_at R new q ≡ live_at R old q) → from_entries {R = R} (live new) ≡ from_entries (live old)
  stays old new so sn h = same_map o exact _ _ (λ q. get-live new q sn ∙ h q ∙ sym (get-live old q so))

  -- the map with changes over it
  pub changes : (old new cs : List (K × Option X)) → T (is_sorted R old) → T (is_sorted R new) → ((q : K) → live_at R new q ≡ or_below (lookup (is_at (R q)) cs) (live_at R old q)) → from_entries {R = R} (live new) ≡ overlaid cs (from_entries (live old))
  changes old new cs so sn h = same_map o exact _ _ (λ q.
      get-live new q sn
      ∙ h q
      ∙ ap (or_below (lookup (is_at (R q)) cs)) (sym (get-live old q so))
      ∙ ap (λ (f : Option (Option X)). or_below f (get {R = R} (from_entries (live old)) q)) (sym (find-lookup o cs q))
      ∙ sym (get-overlaid o cs (from_entries (live old)) q))

-- ---- one step, over what stands under each key

module _ {K X : Type 0} {R : K → K → Ordering} (o : IsTotalOrder R) where
  -- keys that the order does not tell apart have the same entry
  pub alike : (k q : K) (es : List (K × Option X)) → is_at (R k) q ≡ true → slot_at R es q ≡ slot_at R es k
  alike k q es e = ap (λ (f : K → Ordering). lookup (is_at f) es) (sym (λ i x. o.congr k q x (equal (R k q) e) i))

  pub room-made : (k : K) (old new : List (K × Option X)) → slot_at R old k ≡ None → ((q : K) → slot_at R new q ≡ cond (is_at (R k) q) (Some None) (slot_at R old q)) → (q : K) → live_at R new q ≡ live_at R old q
  room-made k old new none is q = ap flat (is q) ∙ by_test (is_at (R k) q) refl
    where
      by_test : (b : Bool) → is_at (R k) q ≡ b → flat (cond b (Some None) (slot_at R old q)) ≡ live_at R old q
      by_test true e = sym (ap flat (alike k q old e ∙ none))
      by_test false e = refl

  pub room-there : (k : K) (v : Option X) (old new : List (K × Option X)) → ((q : K) → slot_at R new q ≡ cond (is_at (R k) q) (Some v) (slot_at R old q)) → IsSome (slot_at R new k)
  room-there k v old new is = subst IsSome (sym (is k ∙ ap (λ b. cond b (Some v) (slot_at R old k)) (ap is_eq (tied_itself o k)))) refl

  pub room-kept : (k : K) (v : Option X) (old new : List (K × Option X)) → ((q : K) → slot_at R new q ≡ cond (is_at (R k) q) (Some v) (slot_at R old q)) → (q : K) → IsSome (slot_at R old q) → IsSome (slot_at R new q)
  room-kept k v old new is q h = subst IsSome (sym (is q)) (elim (is_at (R k) q) as (λ b. IsSome (cond b (Some v) (slot_at R old q))) [ true ↦ refl | false ↦ h ])

  pub value-put : (k : K) (v : Option X) (old new : List (K × Option X)) → ((q : K) → slot_at R new q ≡ cond (is_at (R k) q) (Some v) (slot_at R old q)) → (q : K) → live_at R new q ≡ cond (is_at (R k) q) v (live_at R old q)
  value-put k v old new is q = ap flat (is q) ∙ elim (is_at (R k) q) as (λ b. flat (cond b (Some v) (slot_at R old q)) ≡ cond b v (live_at R old q)) [ true ↦ refl | false ↦ refl ]

  last-change : (q k : K) (v f : Option X) (cs : List (K × Option X)) → or_below (lookup (is_at (R q)) (cs ++ (k, v) ∷ [])) f ≡ or_below (lookup (is_at (R q)) cs) (cond (is_at (R q) k) v f)
  last-change q k v f [] = elim (is_at (R q) k) as (λ b. or_below (cond b (Some v) None) f ≡ cond b v f) [ true ↦ refl | false ↦ refl ]
  last-change q k v f (c ∷ cs) = elim (is_at (R q) c.0) as (λ b. or_below (cond b (Some c.1) (lookup (is_at (R q)) (cs ++ (k, v) ∷ []))) f ≡ or_below (cond b (Some c.1) (lookup (is_at (R q)) cs)) (cond (is_at (R q) k) v f)) [ true ↦ refl | false ↦ last-change q k v f cs ]

  -- to put the last of the changes leaves the others to do
  pub put-last : (k : K) (v : Option X) (cs : List (K × Option X)) (f g : K → Option X) → ((q : K) → g q ≡ cond (is_at (R k) q) v (f q)) → (q : K) → or_below (lookup (is_at (R q)) cs) (g q) ≡ or_below (lookup (is_at (R q)) (cs ++ (k, v) ∷ [])) (f q)
  put-last k v cs f g is q =
      ap (or_below (lookup (is_at (R q)) cs)) (is q ∙ ap (λ b. cond b v (f q)) ((eq_by_cmp_equiv o).symm k q))
      ∙ sym (last-change q k v (f q) cs)

-- ---- the last of a list

front : {A : Type 0} (P : A → Type 0) (xs : List A) (x : A) → AllByRecursion P (xs ++ x ∷ []) → AllByRecursion P xs × P x
front P [] x h = (tt, h.0)
front P (y ∷ xs) x h = let it = front P xs x h.1 in ((h.0, it.0), it.1)

pub all_front : {A : Type 0} (P : A → Type 0) (xs : List A) (x : A) → All P (xs ++ x ∷ []) → All P xs
all_front P xs x h = All-from_recursion P xs (front P xs x (recursion_from_All P (xs ++ x ∷ []) h)).0

pub all_last : {A : Type 0} (P : A → Type 0) (xs : List A) (x : A) → All P (xs ++ x ∷ []) → P x
all_last P xs x h = (front P xs x (recursion_from_All P (xs ++ x ∷ []) h)).1
