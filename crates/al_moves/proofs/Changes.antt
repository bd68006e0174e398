-- The rows that differ, among those that were set.
use Rattle.std.proofs.Common.{◌≡◌, refl, sym, ap, ap₂, ◌∙◌, subst, option_map, List, [], ◌∷◌, map, Option, Some, None, Bool, true, false, cond, not, IfSome, Equal, if◌then◌else◌, All, Result, Ok, Err, IfOk, OnOk}
use Rattle.std.specs.List.{AllByRecursion}
use Rattle.std.specs.List.Sorted.{IsStrictlySortedBy}
use Rattle.std.proofs.lemmas.List.Elements.{All-from_recursion}
use Rattle.std.specs.FinMap.{get}
use Rattle.std.specs.FinMap.Entries.{where_key, find-where_key, is_sorted-where_key}
use Rattle.al_base.specs.declared.key.Key.{Key}
use Rattle.al_rows.specs.declared.row.Row.{Row}
use Rattle.al_base.specs.Keys.{key_cmp}
use Rattle.al_rows.specs.Finite.{overlaid, or_below}
use Rattle.al_rows.specs.Rows.{RowMap, IsKept, same_row}
use Rattle.al_rows.proofs.Sames.{same_itself}
use Rattle.al_rows.proofs.Keys.{keys_total, exact_keys}
use Rattle.al_rows.proofs.Maps.{find-lookup}
use Rattle.al_rows.specs.declared.change.Change.{Change}
use Rattle.al_moves.specs.Changes.{change_of, AreChanges, changed}
use Rattle.al_overlay.specs.declared.held.Held.{Held}
use Rattle.al_overlay.specs.Held.{at, befores, now_at, nows, IsWork}
use Rattle.al_overlay.proofs.Overlays.{at-befores, at-nows, get-now, nows-ordered}
use Rattle.al_overlay.proofs.Firsts.{each_found, sorted, strictly, all_more}

chosen : {A : Type 0} (b : Bool) (x y z : A) → y ≡ z → (if b then x else y) ≡ cond (not b) z x
chosen true x y z e = refl
chosen false x y z e = e

kept_or : {A : Type 0} (P : A → Type 0) (b : Bool) (x : A) (xs : List A) → (b ≡ false → P x) → AllByRecursion P xs → AllByRecursion P (if b then xs else x ∷ xs)
kept_or P true x xs p h = h
kept_or P false x xs p h = (p refl, h)

module _ (es : List (Key × Held)) where
  abbrev differs : Key → Bool
  differs q = not (same_row (now_at (befores es) q) (now_at (nows es) q))

  changed-where : (xs : List (Key × Held)) → AllByRecursion (λ e. at es e.0 ≡ Some e.1) xs → changed xs ≡ where_key key_cmp differs (nows xs)
  changed-where [] h = refl
  changed-where (e ∷ xs) h =
      let rest = where_key key_cmp differs (nows xs) in
      let x : Key × Option Row = (e.0, e.1.row) in
      let old : now_at (befores es) e.0 ≡ e.1.block = ap (λ o. or_below o None) (at-befores es e.0 ∙ ap (option_map (λ h. h.block)) h.0) in
      let new : now_at (nows es) e.0 ≡ e.1.row = ap (λ o. or_below o None) (at-nows es e.0 ∙ ap (option_map (λ h. h.row)) h.0) in
      ap (λ ys. if same_row e.1.block e.1.row then ys else x ∷ ys) (changed-where xs h.1)
      ∙ chosen (same_row e.1.block e.1.row) rest (x ∷ rest) (x ∷ rest) refl
      ∙ ap₂ (λ c o. cond (not (same_row c o)) (x ∷ rest) rest) (sym old) (sym new)

  pub each_at : IsStrictlySortedBy key_cmp (map (λ e. e.0) es) → AllByRecursion (λ e. at es e.0 ≡ Some e.1) es
  each_at ordered = all_more es (λ e is. sym (find-lookup keys_total es e.0) ∙ is) (each_found es (sorted es ordered))

  changed_is : IsStrictlySortedBy key_cmp (map (λ e. e.0) es) → changed es ≡ where_key key_cmp differs (nows es)
  changed_is ordered = changed-where es (each_at ordered)

  pub changed-ordered : IsStrictlySortedBy key_cmp (map (λ e. e.0) es) → IsStrictlySortedBy key_cmp (map (λ e. e.0) (changed es))
  changed-ordered ordered = subst (λ xs. IsStrictlySortedBy key_cmp (map (λ e. e.0) xs)) (sym (changed_is ordered)) (strictly _ (is_sorted-where_key key_cmp differs (nows es) (sorted (nows es) (nows-ordered es ordered))))

  alike : (q x : Key) → key_cmp q x ≡ Equal → differs x ≡ differs q
  alike q x t = ap differs (sym (exact_keys q x t))

  changed-at : IsStrictlySortedBy key_cmp (map (λ e. e.0) es) → (q : Key) → at (changed es) q ≡ cond (differs q) (at (nows es) q) None
  changed-at ordered q =
      ap (λ xs. at xs q) (changed_is ordered)
      ∙ sym (find-lookup keys_total (where_key key_cmp differs (nows es)) q)
      ∙ find-where_key key_cmp differs q (alike q) (nows es)
      ∙ ap (λ o. cond (differs q) o None) (find-lookup keys_total (nows es) q)

  one : (o : Option Held) (old : Option Row) → IfSome o (λ h. h.block ≡ old)
      → cond (not (same_row (or_below (option_map (λ h. h.block) o) None) (or_below (option_map (λ h. h.row) o) None))) (option_map (λ h. h.row) o) None
      ≡ (if same_row old (or_below (option_map (λ h. h.row) o) old) then None else Some (or_below (option_map (λ h. h.row) o) old))
  one None old told = sym (ap (λ b. if b then None else Some old) (same_itself old))
  one (Some x) old told =
      sym (chosen (same_row x.block x.row) None (Some x.row) (Some x.row) refl) ∙ ap (λ z. if same_row z x.row then None else Some x.row) told

  pub changed-changes : {t : Bool} {ss : List (Key × Option Row)} (m : RowMap) → IsWork t m es ss → t ≡ true → IsStrictlySortedBy key_cmp (map (λ e. e.0) es) → AreChanges m (overlaid (nows es) m) (changed es)
  changed-changes m w told ordered = record {
    ordered = changed-ordered ordered;
    each = λ q. changed-at ordered q
        ∙ ap₂ (λ c o. cond (not (same_row (or_below c None) (or_below o None))) o None) (at-befores es q) (at-nows es q)
        ∙ one (at es q) (get m q) (w.told told q)
        ∙ ap (λ o. if same_row (get m q) (or_below o (get m q)) then None else Some (or_below o (get m q))) (sym (at-nows es q))
        ∙ ap (λ z. if same_row (get m q) z then None else Some z) (sym (get-now (nows es) m q));
  }

  some_kept : (xs : List (Key × Held)) → AllByRecursion (λ e. same_row e.1.block e.1.row ≡ false → IfSome e.1.row (IsKept e.0)) xs → AllByRecursion (λ e. IfSome e.1 (IsKept e.0)) (changed xs)
  some_kept [] h = tt
  some_kept (e ∷ xs) h = kept_or (λ (e : Key × Option Row). IfSome e.1 (IsKept e.0)) (same_row e.1.block e.1.row) (e.0, e.1.row) (changed xs) h.0 (some_kept xs h.1)

  pub changed-kept : ((q : Key) → IfSome (at es q) (λ h. same_row h.block h.row ≡ false → IfSome h.row (IsKept q))) → IsStrictlySortedBy key_cmp (map (λ e. e.0) es) → AllByRecursion (λ e. IfSome e.1 (IsKept e.0)) (changed es)
  changed-kept kept ordered = some_kept es (all_more es (λ e is. subst (λ o. IfSome o (λ h. same_row h.block h.row ≡ false → IfSome h.row (IsKept e.0))) is (kept e.0)) (each_at ordered))

keys_of : (cs : List Change) → map (λ c. c.key) cs ≡ map (λ e. e.0) (map change_of cs)
keys_of [] = refl
keys_of (c ∷ cs) = ap (λ z. c.key ∷ z) (keys_of cs)

rows_of : (cs : List Change) → AllByRecursion (λ e. IfSome e.1 (IsKept e.0)) (map change_of cs) → AllByRecursion (λ c. IfSome c.row (IsKept c.key)) cs
rows_of [] h = tt
rows_of (c ∷ cs) h = (h.0, rows_of cs h.1)

-- what a finished work answers, from the list that its loop makes
module _ {E : Type 0} (es : List (Key × Held)) where
  pub finish_changes : (r : Result (List Change) E) {t : Bool} {ss : List (Key × Option Row)} (m : RowMap) → IsWork t m es ss → t ≡ true
      → IfOk r (λ cs. map change_of cs ≡ changed es) → OnOk r (IsStrictlySortedBy key_cmp (map (λ e. e.0) es)) → IfOk r (λ cs. AreChanges m (overlaid (nows es) m) (map change_of cs))
  finish_changes (Ok cs) m w told is ordered = subst (AreChanges m (overlaid (nows es) m)) (sym is) (changed-changes es m w told ordered)
  finish_changes (Err e) m w told is ordered = tt

  pub finish_ordered : (r : Result (List Change) E) → IfOk r (λ cs. map change_of cs ≡ changed es) → OnOk r (IsStrictlySortedBy key_cmp (map (λ e. e.0) es)) → IfOk r (λ cs. IsStrictlySortedBy key_cmp (map (λ c. c.key) cs))
  finish_ordered (Ok cs) is ordered = subst (IsStrictlySortedBy key_cmp) (ap (map (λ e. e.0)) (sym is) ∙ sym (keys_of cs)) (changed-ordered es ordered)
  finish_ordered (Err e) is ordered = tt

  pub finish_kept : (r : Result (List Change) E) → ((q : Key) → IfSome (at es q) (λ h. same_row h.block h.row ≡ false → IfSome h.row (IsKept q))) → IfOk r (λ cs. map change_of cs ≡ changed es) → OnOk r (IsStrictlySortedBy key_cmp (map (λ e. e.0) es)) → IfOk r (λ cs. All (λ c. IfSome c.row (IsKept c.key)) cs)
  finish_kept (Ok cs) kept is ordered = All-from_recursion (λ (c : Change). IfSome c.row (IsKept c.key)) cs (rows_of cs (subst (AllByRecursion (λ (e : Key × Option Row). IfSome e.1 (IsKept e.0))) (sym is) (changed-kept es kept ordered)))
  finish_kept (Err e) kept is ordered = tt
