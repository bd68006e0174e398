-- What the map that a BTreeMap's entries make has under a key, and who created what in it.
use Rattle.std.proofs.Common.{◌≡◌, ◌∙◌, refl, sym, ap, subst, T, List, Bool, true, false, ◌&&◌, is_lt, is_eq, Ordering, Less, Equal, Greater, [], ◌∷◌, map, cond, Option, Some, None, IfSome, All, option_map, ℕ, Result, Ok, Err, IfOk, OnOk}
use Rattle.std.specs.Option.{option_or}
use Rattle.std.specs.Map.{lookup}
use Rattle.std.specs.BTreeMap.{is_at}
use Rattle.std.proofs.lemmas.List.Elements.{recursion_from_All}
use Rattle.std.specs.List.{AllByRecursion}
use Rattle.std.specs.List.Sorted.{IsStrictlySortedBy}
use Rattle.std.specs.FinMap.{get, from_entries, get-from_entries, entries, entries_sorted, get-entries, is_sorted}
use Rattle.std.specs.FinMap.Entries.{below_all, same_entries}
use Rattle.std.specs.BTreeMap as tree
use Rattle.std.specs.BTreeMap.{BTreeMap}
use Rattle.al_base.specs.declared.key.Key.{Key}
use Rattle.al_base.specs.Keys.{key_cmp}
use Rattle.al_rows.specs.declared.row.Row.{Row}
use Rattle.al_rows.specs.declared.stored.Stored.{Stored}
use Rattle.al_rows.specs.Finite.{first_some}
use Rattle.al_base.specs.declared.address.Address.{Address}
use Rattle.std.specs.Ordering.{nat_cmp}
use Rattle.al_rows.specs.Rows.{AreCreators, bare, creator_at, creator_of, InRange}
use Rattle.al_rows.proofs.Maps.{find-lookup, get-map_entries, entries-map_entries}
use Rattle.al_rows.proofs.Keys.{keys_total, exact_keys}

pub get-of_entries : {X : Type 0} (rows : BTreeMap Key X) (q : Key) → get (from_entries {R = key_cmp} rows.entries) q ≡ tree.get key_cmp rows q
get-of_entries rows q = get-from_entries keys_total rows.entries q ∙ find-lookup keys_total rows.entries q

both : (a b : Bool) → T a → T b → T (a && b)
both true b p q = q
both false b p q = p

-- a list in the order of keys, as a BTreeMap says it and as a finite map does
below : {X : Type 0} (k : Key) (es : List (Key × X)) → AllByRecursion (λ y. key_cmp k y ≡ Less) (map (λ e. e.0) es) → T (below_all key_cmp k es)
below k [] h = tt
below k (e ∷ es) h = subst (λ r. T (is_lt r && below_all key_cmp k es)) (sym h.0) (below k es h.1)

pub sorted : {X : Type 0} (es : List (Key × X)) → IsStrictlySortedBy key_cmp (map (λ e. e.0) es) → T (is_sorted key_cmp es)
unfolding IsStrictlySortedBy
sorted [] h = tt
sorted (e ∷ es) h = both _ _ (below e.0 es h.0) (sorted es h.1)

-- the entries of the map that a list in the order of keys makes are that list
pub entries-of : {X : Type 0} (es : List (Key × X)) → IsStrictlySortedBy key_cmp (map (λ e. e.0) es) → entries (from_entries {R = key_cmp} es) ≡ es
entries-of es h = same_entries key_cmp keys_total exact_keys _ _ (entries_sorted (from_entries es)) (sorted es h) (λ q. sym (get-entries (from_entries es) q) ∙ get-from_entries keys_total es q)

equal : (r : Ordering) → is_eq r ≡ true → r ≡ Equal
equal Less p = cc
equal Equal p = refl
equal Greater p = cc

-- what holds of each entry holds of what a look-up finds under its key
module _ {X : Type 0} (P : Key → X → Type 0) where
  by_entry : (es : List (Key × X)) (q : Key) → AllByRecursion (λ e. P e.0 e.1) es → IfSome (lookup (is_at (key_cmp q)) es) (P q)
  by_entry [] q h = tt
  by_entry (e ∷ es) q h = by_test (is_at (key_cmp q) e.0) refl (by_entry es q h.1)
    where
      by_test : (b : Bool) → is_at (key_cmp q) e.0 ≡ b → IfSome (lookup (is_at (key_cmp q)) es) (P q) → IfSome (cond b (Some e.1) (lookup (is_at (key_cmp q)) es)) (P q)
      by_test true t rest = subst (λ k. P k e.1) (sym (exact_keys q e.0 (equal (key_cmp q e.0) t))) h.0
      by_test false t rest = rest

  pub ranged-get : (es : List (Key × X)) (q : Key) → All (λ e. P e.0 e.1) es → IfSome (lookup (is_at (key_cmp q)) es) (P q)
  ranged-get es q h = by_entry es q (recursion_from_All (λ (e : Key × X). P e.0 e.1) es h)

-- ---- rows with their rounds

pub get-bare : (rows : BTreeMap Key Stored) (q : Key) → get (bare (from_entries rows.entries)) q ≡ option_map (λ s. s.row) (tree.get key_cmp rows q)
get-bare rows q = get-map_entries exact_keys (λ k (s : Stored). s.row) (from_entries rows.entries) q ∙ ap (option_map (λ (s : Stored). s.row)) (get-of_entries rows q)

first_mapped : {A B C : Type 0} (f : A → B) (g : B → Option C) (xs : List A) → first_some g (map f xs) ≡ first_some (λ x. g (f x)) xs
first_mapped f g [] = refl
first_mapped f g (x ∷ xs) = ap (option_or (g (f x))) (first_mapped f g xs)

pub creator-bare : (es : List (Key × Stored)) (id : ℕ) → IsStrictlySortedBy key_cmp (map (λ e. e.0) es) → first_some (λ e. creator_at id e.0 e.1.row) es ≡ creator_of (bare (from_entries es)) id
unfolding creator_of
creator-bare es id h =
    sym (first_mapped (λ (e : Key × Stored). (e.0, e.1.row)) (λ (e : Key × Row). creator_at id e.0 e.1) es)
    ∙ ap (λ (xs : List (Key × Stored)). first_some (λ (e : Key × Row). creator_at id e.0 e.1) (map (λ (e : Key × Stored). (e.0, e.1.row)) xs)) (sym (entries-of es h))
    ∙ ap (first_some (λ (e : Key × Row). creator_at id e.0 e.1)) (sym (entries-map_entries {X = Stored} {Y = Row} exact_keys (λ k s. s.row) (from_entries es)))

ranged_row : (o : Option Stored) (q : Key) → IfSome o (λ s. InRange q s.row) → IfSome (option_map (λ (s : Stored). s.row) o) (InRange q)
ranged_row None q h = tt
ranged_row (Some s) q h = h

pub ranged-bare : (rows : BTreeMap Key Stored) (q : Key) → All (λ e. InRange e.0 e.1.row) rows.entries → IfSome (option_map (λ (s : Stored). s.row) (tree.get key_cmp rows q)) (InRange q)
ranged-bare rows q h = ranged_row (tree.get key_cmp rows q) q (ranged-get (λ k (s : Stored). InRange k s.row) rows.entries q h)

-- ---- an index of creators

or_or : {A : Type 0} (a b c : Option A) → option_or (option_or a b) c ≡ option_or a (option_or b c)
or_or None b c = refl
or_or (Some x) b c = refl

-- one more row is noted
pub noted : (es all : List (Key × Stored)) (e : Key × Stored) (id : ℕ) (old new : Option Address) → new ≡ option_or old (creator_at id e.0 e.1.row)
    → option_or old (first_some (λ e. creator_at id e.0 e.1.row) (e ∷ es)) ≡ first_some (λ e. creator_at id e.0 e.1.row) all
    → option_or new (first_some (λ e. creator_at id e.0 e.1.row) es) ≡ first_some (λ e. creator_at id e.0 e.1.row) all
noted es all e id old new is before =
    ap (λ o. option_or o (first_some (λ e. creator_at id e.0 e.1.row) es)) is
    ∙ or_or old (creator_at id e.0 e.1.row) (first_some (λ e. creator_at id e.0 e.1.row) es)
    ∙ before

-- an index of the first creators is one of the creators
pub are-creators : {E : Type 0} (r : Result (BTreeMap ℕ Address) E) (es : List (Key × Stored)) → IfOk r (λ c. (id : ℕ) → tree.get nat_cmp c id ≡ first_some (λ e. creator_at id e.0 e.1.row) es)
    → OnOk r (IsStrictlySortedBy key_cmp (map (λ e. e.0) es)) → IfOk r (AreCreators (bare (from_entries es)))
unfolding AreCreators
are-creators (Ok c) es first ordered = λ id. first id ∙ creator-bare es id ordered
are-creators (Err e) es first ordered = tt
