-- Changes put into rows one after another.
use Rattle.std.proofs.Common.{◌≡◌, ◌∙◌, ℕ, zero, suc, ◌<◌, ◌+◌, refl, sym, ap, ap₂, subst, List, [], ◌∷◌, map, drop, length, get_or, Option, Some, None, Bool, true, false, cond, IfSome, All, is_eq, Less, arith, Bor}
use Rattle.std.specs.Option.{option_copied}
use Rattle.std.proofs.Math.Seq.{drop-cons}
use Rattle.std.specs.List.{AllByRecursion}
use Rattle.std.specs.List.Sorted.{IsStrictlySortedBy}
use Rattle.std.proofs.lemmas.Cmp.{eq_by_cmp_equiv}
use Rattle.std.proofs.lemmas.List.Elements.{All-from_recursion}
use Rattle.std.specs.Map.{lookup}
use Rattle.std.specs.BTreeMap.{BTreeMap, IsOrdered, is_at}
use Rattle.std.specs.FinMap.{get, from_entries, same_map}
use Rattle.al_base.specs.declared.key.Key.{Key}
use Rattle.al_base.specs.Keys.{key_cmp}
use Rattle.al_rows.specs.declared.change.Change.{Change}
use Rattle.al_rows.specs.declared.stored.Stored.{Stored}
use Rattle.al_rows.specs.declared.row.Row.{Row}
use Rattle.al_rows.specs.Finite.{or_below}
use Rattle.al_rows.specs.Rows.{InRange, IsKept}
use Rattle.al_rows.proofs.Keys.{keys_total, exact_keys}
use Rattle.al_rows.proofs.Maps.{find-lookup, get-overlaid, entries_found}
use Rattle.al_rows.proofs.Views.{get-of_entries, ranged-get, sorted}
use Rattle.al_deltas.specs.declared.delta.RoundDelta.{RoundDelta}
use Rattle.al_tables.specs.Tables.{StoredMap}
use Rattle.al_deltas.specs.Queue.{after_delta, left_of, stored_at}
use Rattle.al_deltas.proofs.Searches.{Rise, equal}

-- what a list has under a key
abbrev pub at : {X : Type 0} → List (Key × X) → Key → Option X
at es q = lookup (is_at (key_cmp q)) es

-- what is left of a list from a place on begins with what stands there
pub drop_at : {A : Type 0} (xs : List A) (i : ℕ) (x : A) → i < length xs → x ≡ get_or xs i x → drop i xs ≡ x ∷ drop (i + 1) xs
drop_at xs i x h e = drop-cons xs i x h ∙ ap₂ (λ y ys. y ∷ ys) (sym e) (ap (λ j. drop j xs) (let s : suc i ≡ i + 1 = omega arith in s))

pub same_key : (k q : Key) → is_at (key_cmp k) q ≡ true → k ≡ q
same_key k q e = exact_keys k q (equal (key_cmp k q) e)

turned_at : (k q : Key) → is_at (key_cmp k) q ≡ is_at (key_cmp q) k
turned_at k q = (eq_by_cmp_equiv keys_total).symm k q

-- a key below all others is none of them
none_below : (round : ℕ) (k : Key) (cs : List Change) → AllByRecursion (λ y. key_cmp k y ≡ Less) (map (λ c. c.key) cs) → at (map (left_of round) cs) k ≡ None
none_below round k [] h = refl
none_below round k (c ∷ cs) h = ap (λ r. cond (is_eq r) (Some (stored_at round c.row)) (at (map (left_of round) cs) k)) h.0 ∙ none_below round k cs h.1

first_below : (round : ℕ) (c : Change) (cs : List Change) → Rise (c ∷ cs) → at (map (left_of round) cs) c.key ≡ None
unfolding IsStrictlySortedBy
first_below round c cs h = none_below round c.key cs h.0

pub later_rise : (c : Change) (cs : List Change) → Rise (c ∷ cs) → Rise cs
unfolding IsStrictlySortedBy
later_rise c cs h = h.1

-- to put the first of the changes leaves the others to do
pub put_first : (round : ℕ) (c : Change) (cs : List Change) (f g : Key → Option Stored) → Rise (c ∷ cs) → ((q : Key) → g q ≡ cond (is_at (key_cmp c.key) q) (stored_at round c.row) (f q))
    → (q : Key) → or_below (at (map (left_of round) cs) q) (g q) ≡ or_below (at (map (left_of round) (c ∷ cs)) q) (f q)
put_first round c cs f g rise is q =
    ap (or_below (at (map (left_of round) cs) q)) (is q)
    ∙ by_test (is_at (key_cmp c.key) q) refl
    ∙ ap (λ b. or_below (cond b (Some (stored_at round c.row)) (at (map (left_of round) cs) q)) (f q)) (turned_at c.key q)
  where
    by_test : (b : Bool) → is_at (key_cmp c.key) q ≡ b → or_below (at (map (left_of round) cs) q) (cond b (stored_at round c.row) (f q)) ≡ or_below (cond b (Some (stored_at round c.row)) (at (map (left_of round) cs) q)) (f q)
    by_test true e = ap (λ o. or_below o (stored_at round c.row)) (ap (at (map (left_of round) cs)) (sym (same_key c.key q e)) ∙ first_below round c cs rise)
    by_test false e = refl

-- ---- what is put again

is_there : (round : ℕ) (cs : List Change) (i : ℕ) (c : Change) → i < length cs → c ≡ get_or cs i c → (x : Option Stored) × (at (map (left_of round) cs) c.key ≡ Some x)
is_there round [] i c h e = absurd (omega (arith, h))
is_there round (d ∷ cs) zero c h e = (stored_at round d.row, ap (λ b. cond b (Some (stored_at round d.row)) (at (map (left_of round) cs) c.key)) (ap (λ (x : Change). is_at (key_cmp c.key) x.key) (sym e) ∙ (eq_by_cmp_equiv keys_total).refl c.key))
is_there round (d ∷ cs) (suc i) c h e = by_test (is_at (key_cmp c.key) d.key) (is_there round cs i c (omega (arith, h)) e)
  where
    by_test : (b : Bool) → (x : Option Stored) × (at (map (left_of round) cs) c.key ≡ Some x) → (x : Option Stored) × (cond b (Some (stored_at round d.row)) (at (map (left_of round) cs) c.key) ≡ Some x)
    by_test true r = (stored_at round d.row, refl)
    by_test false r = r

-- a change that is among those that are put again makes no difference
pub put_again : (round : ℕ) (cs : List Change) (i : ℕ) (c : Change) (f g : Key → Option Stored) → i < length cs → c ≡ get_or cs i c → ((q : Key) → g q ≡ cond (is_at (key_cmp c.key) q) (stored_at round c.row) (f q))
    → (q : Key) → or_below (at (map (left_of round) cs) q) (g q) ≡ or_below (at (map (left_of round) cs) q) (f q)
put_again round cs i c f g h e is q = ap (or_below (at (map (left_of round) cs) q)) (is q) ∙ by_test (is_at (key_cmp c.key) q) refl
  where
    by_test : (b : Bool) → is_at (key_cmp c.key) q ≡ b → or_below (at (map (left_of round) cs) q) (cond b (stored_at round c.row) (f q)) ≡ or_below (at (map (left_of round) cs) q) (f q)
    by_test true t =
        let x = is_there round cs i c h e in
        let some : at (map (left_of round) cs) q ≡ Some x.0 = ap (at (map (left_of round) cs)) (sym (same_key c.key q t)) ∙ x.1 in
        ap (λ o. or_below o (stored_at round c.row)) some ∙ sym (ap (λ o. or_below o (f q)) some)
    by_test false t = refl

-- ---- rows that may be kept

left_kept : (round : ℕ) (k : Key) (r : Option Row) → IfSome r (IsKept k) → IfSome (stored_at round r) (λ s. IsKept k s.row)
left_kept round k None h = tt
left_kept round k (Some r) h = h

pub put_kept : (round : ℕ) (c : Change) (f g : Key → Option Stored) → IfSome c.row (IsKept c.key) → ((q : Key) → IfSome (f q) (λ s. IsKept q s.row)) → ((q : Key) → g q ≡ cond (is_at (key_cmp c.key) q) (stored_at round c.row) (f q)) → (q : Key) → IfSome (g q) (λ s. IsKept q s.row)
put_kept round c f g changed kept is q = subst (λ o. IfSome o (λ (s : Stored). IsKept q s.row)) (sym (is q)) (by_test (is_at (key_cmp c.key) q) refl)
  where
    by_test : (b : Bool) → is_at (key_cmp c.key) q ≡ b → IfSome (cond b (stored_at round c.row) (f q)) (λ s. IsKept q s.row)
    by_test true e = subst (λ k. IfSome (stored_at round c.row) (λ (s : Stored). IsKept k s.row)) (same_key c.key q e) (left_kept round c.key c.row changed)
    by_test false e = kept q

pub all_kept : (rows : BTreeMap Key Stored) → IsOrdered key_cmp rows → ((q : Key) → IfSome (at rows.entries q) (λ s. IsKept q s.row)) → All (λ e. IsKept e.0 e.1.row) rows.entries
all_kept rows ordered kept = All-from_recursion (λ (e : Key × Stored). IsKept e.0 e.1.row) rows.entries (all_more rows.entries (λ e is. subst (λ o. IfSome o (λ (s : Stored). IsKept e.0 s.row)) (sym (find-lookup keys_total rows.entries e.0) ∙ is) (kept e.0)) (entries_found keys_total rows.entries (sorted rows.entries ordered)))
  where
    all_more : {A : Type 0} {P Q : A → Type 0} (xs : List A) → ((x : A) → P x → Q x) → AllByRecursion P xs → AllByRecursion Q xs
    all_more [] f h = tt
    all_more (x ∷ xs) f h = (f x h.0, all_more xs f h.1)

-- rows that are kept are in their ranges
pub ranged_rows : (es : List (Key × Stored)) → All (λ e. IsKept e.0 e.1.row) es → All (λ e. InRange e.0 e.1.row) es
ranged_rows es h = λ k d fits. (h k d fits).0

-- ---- rows as finite maps

over : (d : RoundDelta) (rows : BTreeMap Key Stored) (q : Key) → get (after_delta d (from_entries rows.entries)) q ≡ or_below (at (map (left_of d.round) d.changes) q) (at rows.entries q)
over d rows q =
    get-overlaid keys_total (map (left_of d.round) d.changes) (from_entries rows.entries) q
    ∙ ap₂ or_below (find-lookup keys_total (map (left_of d.round) d.changes) q) (get-of_entries rows q)

pub applied : (d : RoundDelta) (cs : List Change) (old new : BTreeMap Key Stored) (was : StoredMap) → cs ≡ d.changes → was ≡ from_entries old.entries → ((q : Key) → at new.entries q ≡ or_below (at (map (left_of d.round) cs) q) (at old.entries q)) → from_entries new.entries ≡ after_delta d was
applied d cs old new was same led is = same_map keys_total exact_keys (from_entries new.entries) (after_delta d was) (λ q.
    get-of_entries new q
    ∙ is q
    ∙ ap (λ (es : List Change). or_below (at (map (left_of d.round) es) q) (at old.entries q)) same
    ∙ sym (over d old q)
    ∙ ap (λ (m : StoredMap). get (after_delta d m) q) (sym led))

pub applied_again : (d : RoundDelta) (cs : List Change) (old new : BTreeMap Key Stored) (was : StoredMap) → cs ≡ d.changes → was ≡ from_entries old.entries
    → ((q : Key) → or_below (at (map (left_of d.round) cs) q) (at new.entries q) ≡ or_below (at (map (left_of d.round) cs) q) (at old.entries q)) → after_delta d (from_entries new.entries) ≡ after_delta d was
applied_again d cs old new was same led is = same_map keys_total exact_keys (after_delta d (from_entries new.entries)) (after_delta d was) (λ q.
    over d new q
    ∙ ap (λ (es : List Change). or_below (at (map (left_of d.round) es) q) (at new.entries q)) (sym same)
    ∙ is q
    ∙ ap (λ (es : List Change). or_below (at (map (left_of d.round) es) q) (at old.entries q)) same
    ∙ sym (over d old q)
    ∙ ap (λ (m : StoredMap). get (after_delta d m) q) (sym led))

-- ---- one row of them

pub found : (rows : BTreeMap Key Stored) (was : StoredMap) (q : Key) (o : Option (Bor Stored)) → was ≡ from_entries rows.entries → option_copied o ≡ at rows.entries q → option_copied o ≡ get was q
found rows was q o led is = is ∙ sym (get-of_entries rows q) ∙ ap (λ (m : StoredMap). get m q) (sym led)

pub found_kept : (rows : BTreeMap Key Stored) (q : Key) (o : Option (Bor Stored)) → All (λ e. IsKept e.0 e.1.row) rows.entries → option_copied o ≡ at rows.entries q → IfSome o (λ s. IsKept q s.now.row)
found_kept rows q None kept is = tt
found_kept rows q (Some s) kept is = subst (λ p. IfSome p (λ (t : Stored). IsKept q t.row)) (sym is) (ranged-get (λ k (t : Stored). IsKept k t.row) rows.entries q kept)
