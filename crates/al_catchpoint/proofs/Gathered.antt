-- Elements are a set: in which order they are added, and how often, tells nothing.
use Rattle.std.proofs.Common.{◌≡◌, ℕ, Bool, true, false, cond, List, [], ◌∷◌, ◌++◌, map, refl, sym, ap, ◌∙◌, Option, Some, None, Ordering, Less, Equal, Greater, is_some}
use Rattle.std.specs.Cmp.Lexicographic.{slice_cmp, nat_list_cmp_total}
use Rattle.std.specs.Ordering.{nat_cmp, eq_by_cmp, is_eq}
use Rattle.std.specs.FinMap as fin
use Rattle.al_base.specs.declared.key.Key.{Key}
use Rattle.al_rows.specs.declared.stored.Keyed.{Keyed}
use Rattle.al_rows.specs.declared.stored.Stored.{Stored}
use Rattle.al_trie.specs.Tries.{Elements, has, set_of, with_element}
use Rattle.al_row_records.specs.Element.{element_of}
use Rattle.al_catchpoint.specs.Gathering.{with_rows}

abbrev order : List ℕ → List ℕ → Ordering
order = slice_cmp nat_cmp

same_key : fin.IsAntisymmetric (slice_cmp nat_cmp)
same_key = fin.slice_cmp-IsAntisymmetric fin.nat_cmp-IsAntisymmetric

got : (s : Elements) (x q : List ℕ) → fin.get (with_element s x) q ≡ cond (eq_by_cmp order q x) (Some tt) (fin.get s q)
got s x q = fin.get-insert nat_list_cmp_total s x tt q

alike : (s t : Elements) → ((q : List ℕ) → fin.get s q ≡ fin.get t q) → s ≡ t
alike s t h = fin.same_map nat_list_cmp_total same_key s t h

-- two elements may be added in either order
swap : (s : Elements) (x y : List ℕ) → with_element (with_element s x) y ≡ with_element (with_element s y) x
swap s x y = alike _ _ (λ q.
    got (with_element s x) y q
    ∙ ap (cond (eq_by_cmp order q y) (Some tt)) (got s x q)
    ∙ either (eq_by_cmp order q y) (eq_by_cmp order q x) (fin.get s q)
    ∙ sym (got (with_element s y) x q ∙ ap (cond (eq_by_cmp order q x) (Some tt)) (got s y q)))
  where
    either : (a b : Bool) (o : Option (Unit {0})) → cond a (Some tt) (cond b (Some tt) o) ≡ cond b (Some tt) (cond a (Some tt) o)
    either true true o = refl
    either true false o = refl
    either false b o = refl

marked : (o : Option (Unit {0})) → is_some o ≡ true → o ≡ Some tt
marked None h = cc
marked (Some u) h = refl

-- an element that is there is not there twice
pub stays : (s : Elements) (x : List ℕ) → has s x ≡ true → with_element s x ≡ s
stays s x h = alike _ _ (λ q. got s x q ∙ (elim (order q x) as (λ o. order q x ≡ o → cond (is_eq o) (Some tt) (fin.get s q) ≡ fin.get s q) [
  | Less ↦ λ is. refl
  | Equal ↦ λ is. sym (ap (fin.get s) (same_key q x is) ∙ marked (fin.get s x) h)
  | Greater ↦ λ is. refl
] refl))

pub with_append : (xs ys : List Keyed) (s : Elements) → with_rows s (xs ++ ys) ≡ with_rows (with_rows s xs) ys
with_append [] ys s = refl
with_append (x ∷ xs) ys s = with_append xs ys (with_element s (element_of x.key x.stored))

later : (rs : List Keyed) (s : Elements) (x : List ℕ) → with_rows (with_element s x) rs ≡ with_element (with_rows s rs) x
later [] s x = refl
later (r ∷ rs) s x = ap (λ t. with_rows t rs) (swap s x (element_of r.key r.stored)) ∙ later rs (with_element s (element_of r.key r.stored)) x

-- rows that are added in order are the set of their elements
pub all_of : (es : List (Key × Stored)) → with_rows fin.empty (map (λ e. record { key = e.0; stored = e.1 }) es) ≡ set_of (map (λ e. element_of e.0 e.1) es)
all_of [] = refl
all_of (e ∷ es) = later (map (λ e. record { key = e.0; stored = e.1 }) es) fin.empty (element_of e.0 e.1) ∙ ap (λ t. with_element t (element_of e.0 e.1)) (all_of es)

pub stayed : (s t : Elements) (x : List ℕ) → has s x ≡ true → t ≡ s → t ≡ with_element s x
stayed s t x there same = same ∙ sym (stays s x there)
