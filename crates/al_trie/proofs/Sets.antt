-- The set of the elements, and what goes through a path of it.
use Rattle.std.proofs.Common.{◌≡◌, ℕ, ◌⊎◌, inl, inr, ⊎_elim, Bool, true, false, cond, ◌||◌, List, [], ◌∷◌, ◌++◌, map, length, refl, sym, ap, ap₂, ◌∙◌, subst, Option, Some, None, Ordering, Less, Equal, Greater, is_some}
use Rattle.std.proofs.lemmas.Bool.{both_ways, or_cases, or_left, or_right, false_from_ne_true}
use Rattle.std.specs.Cmp.{tied_itself}
use Rattle.std.specs.Cmp.Lexicographic.{slice_cmp, nat_list_cmp_total}
use Rattle.std.specs.Ordering.{nat_cmp, eq_by_cmp, is_eq}
use Rattle.std.specs.FinMap as fin
use Rattle.std.specs.FinMap.Entries.{put, find, by_order}
use Rattle.al_trie.specs.Root.{Through, Empty, Sole, Several, starts, with_one, passing, through, root_of, root_at, node}
use Rattle.al_trie.specs.Slots.{Inserted, Among, AreElements}
use Rattle.al_trie.specs.Tries.{Elements, AreDifferent, has, with_element, without, set_of}
use Rattle.al_trie.proofs.Paths.{starts_itself, starts_whole}
use Rattle.al_trie.proofs.Passing.{more, through-inserted, none_passes, swap_conds}
use Rattle.al_trie.proofs.Digests.{node_same}

abbrev order : List ℕ → List ℕ → Ordering
order = slice_cmp nat_cmp

same_key : fin.IsAntisymmetric (slice_cmp nat_cmp)
same_key = fin.slice_cmp-IsAntisymmetric fin.nat_cmp-IsAntisymmetric

tied : (x y : List ℕ) → eq_by_cmp order x y ≡ true → x ≡ y
tied x y e = elim (order x y) as (λ o. order x y ≡ o → is_eq o ≡ true → x ≡ y) [
  | Less ↦ λ is h. cc
  | Equal ↦ λ is h. same_key x y is
  | Greater ↦ λ is h. cc
] refl e

ties : (x y : List ℕ) → x ≡ y → eq_by_cmp order x y ≡ true
ties x y e = ap is_eq (ap (order x) (sym e) ∙ tied_itself nat_list_cmp_total x)

-- ---- members

abbrev any : List ℕ → List (List ℕ) → Bool
any q [] = false
any q (x ∷ xs) = eq_by_cmp order q x || any q xs

some_or : (b : Bool) (o : Option (Unit {0})) → is_some (cond b (Some tt) o) ≡ (b || is_some o)
some_or true o = refl
some_or false o = refl

pub has-set_of : (xs : List (List ℕ)) (q : List ℕ) → has (set_of xs) q ≡ any q xs
has-set_of [] q = ap is_some (fin.get-empty (slice_cmp nat_cmp) q)
has-set_of (x ∷ xs) q =
    ap is_some (fin.get-insert nat_list_cmp_total (set_of xs) x tt q)
    ∙ some_or (eq_by_cmp order q x) (fin.get (set_of xs) q)
    ∙ ap (λ t. eq_by_cmp order q x || t) (has-set_of xs q)

listed : (x : List ℕ) (xs : List (List ℕ)) → any x xs ≡ true → Among x xs
listed x [] h = cc
listed x (y ∷ ys) h = ⊎_elim (λ t. inl (tied x y t)) (λ l. inr (listed x ys l)) (or_cases (eq_by_cmp order x y) (any x ys) h)

lists : (x : List ℕ) (xs : List (List ℕ)) → Among x xs → any x xs ≡ true
lists x [] m = absurd m
lists x (y ∷ ys) m = ⊎_elim (λ e. or_left (eq_by_cmp order x y) (any x ys) (ties x y e)) (λ l. or_right (eq_by_cmp order x y) (any x ys) (lists x ys l)) m

pub not_listed : (xs : List (List ℕ)) (e : List ℕ) → through xs e ≡ Empty → Among e xs → ⊥
not_listed xs e none m = both_ways (starts e e) (none_passes (starts e) xs e none m) (starts_itself e)

pub absent : (xs : List (List ℕ)) (e : List ℕ) → through xs e ≡ Empty → has (set_of xs) e ≡ false
absent xs e none = has-set_of xs e ∙ false_from_ne_true (any e xs) (λ h. not_listed xs e none (listed e xs h))

pub present : (xs : List (List ℕ)) (e : List ℕ) → Among e xs → has (set_of xs) e ≡ true
present xs e m = has-set_of xs e ∙ lists e xs m

pub among_has : (xs : List (List ℕ)) (x : List ℕ) → has (set_of xs) x ≡ true → Among x xs
among_has xs x h = listed x xs (sym (has-set_of xs x) ∙ h)

any_swap : (q e : List ℕ) (a b : List (List ℕ)) → any q (a ++ e ∷ b) ≡ (eq_by_cmp order q e || any q (a ++ b))
any_swap q e [] b = refl
any_swap q e (x ∷ a) b = ap (λ t. eq_by_cmp order q x || t) (any_swap q e a b) ∙ three (eq_by_cmp order q x) (eq_by_cmp order q e) (any q (a ++ b))
  where
    three : (p q r : Bool) → (p || (q || r)) ≡ (q || (p || r))
    three true true r = refl
    three true false r = refl
    three false q r = refl

marked : (o : Option (Unit {0})) → o ≡ cond (is_some o) (Some tt) None
marked None = refl
marked (Some u) = refl

same_set : (s t : Elements) → ((q : List ℕ) → has s q ≡ has t q) → s ≡ t
same_set s t h = fin.same_map nat_list_cmp_total same_key s t (λ q. marked (fin.get s q) ∙ ap (λ b. cond b (Some tt) None) (h q) ∙ sym (marked (fin.get t q)))

pub set_inserted : (e : List ℕ) (xs ys : List (List ℕ)) → Inserted e xs ys → set_of ys ≡ with_element (set_of xs) e
set_inserted e xs ys (a, b, old, new) = same_set (set_of ys) (with_element (set_of xs) e) (λ q.
    has-set_of ys q ∙ ap (any q) new ∙ any_swap q e a b ∙ ap (λ zs. eq_by_cmp order q e || any q zs) (sym old) ∙ sym (has-set_of (e ∷ xs) q))

-- ---- the items of the set

abbrev keys_of : List (List ℕ × Unit {0}) → List (List ℕ)
keys_of es = map (λ e. e.0) es

put-passing : (test : List ℕ → Bool) (k : List ℕ) (es : List (List ℕ × Unit {0})) → find order k es ≡ None
    → passing test (keys_of (put order k tt es)) ≡ cond (test k) (with_one k (passing test (keys_of es))) (passing test (keys_of es))
put-passing test k [] none = refl
put-passing test k (e ∷ es) none =
    elim (order k e.0) as (λ o. cond (is_eq o) (Some e.1) (find order k es) ≡ None
    → passing test (keys_of (by_order o ((k, tt) ∷ e ∷ es) ((e.0, tt) ∷ es) (e ∷ put order k tt es))) ≡ cond (test k) (with_one k (passing test (e.0 ∷ keys_of es))) (passing test (e.0 ∷ keys_of es))) [
      | Less ↦ λ h. refl
      | Equal ↦ λ h. cc
      | Greater ↦ λ h.
          ap (λ t. cond (test e.0) (with_one e.0 t) t) (put-passing test k es h)
          ∙ swap_conds (test e.0) (test k) e.0 k (passing test (keys_of es))
    ] none

-- no element stands twice, from the front on
abbrev pub Apart : List (List ℕ) → Type 0
Apart [] = Unit {0}
Apart (x ∷ xs) = (through xs x ≡ Empty) × Apart xs

none_found : (o : Option (Unit {0})) → is_some o ≡ false → o ≡ None
none_found None h = refl
none_found (Some u) h = cc

-- what goes through a path of the set is what goes through it of the list
pub through_items : (xs : List (List ℕ)) → Apart xs → (p : List ℕ) → through (fin.keys (set_of xs)) p ≡ through xs p
through_items [] apart p = ap (λ es. through (keys_of es) p) empty_entries
  where
    empty_entries : fin.entries (set_of []) ≡ []
    empty_entries = none_left (fin.entries (fin.empty {R = slice_cmp nat_cmp})) (λ q. sym (fin.get-entries (fin.empty {R = slice_cmp nat_cmp}) q) ∙ fin.get-empty (slice_cmp nat_cmp) q)
      where
        none_left : (es : List (List ℕ × Unit {0})) → ((q : List ℕ) → find order q es ≡ None) → es ≡ []
        none_left [] h = refl
        none_left (e ∷ es) h = let g : cond (eq_by_cmp order e.0 e.0) (Some e.1) (find order e.0 es) ≡ None = h e.0 in found (eq_by_cmp order e.0 e.0) (ties e.0 e.0 refl) g
          where
            found : (b : Bool) → b ≡ true → cond b (Some e.1) (find order e.0 es) ≡ None → e ∷ es ≡ []
            found true is g = cc
            found false is g = cc
through_items (x ∷ xs) apart p =
    ap (λ es. through (keys_of es) p) (fin.entries-insert nat_list_cmp_total (set_of xs) x tt)
    ∙ put-passing (starts p) x (fin.entries (set_of xs)) (sym (fin.get-entries (set_of xs) x) ∙ none_found (fin.get (set_of xs) x) (absent xs x apart.0))
    ∙ ap (λ t. more x p t) (through_items xs apart.1 p)

not_several : (x : List ℕ) (t : Through) → (with_one x t ≡ Several → ⊥) → t ≡ Empty
not_several x Empty h = refl
not_several x (Sole y) h = absurd (h refl)
not_several x Several h = absurd (h refl)

fewer : (x p : List ℕ) (t : Through) → (more x p t ≡ Several → ⊥) → t ≡ Several → ⊥
fewer x p t h e = h (several (starts p x) x t e)
  where
    several : (b : Bool) (x : List ℕ) (t : Through) → t ≡ Several → cond b (with_one x t) t ≡ Several
    several true x Empty e = cc
    several true x (Sole y) e = refl
    several true x Several e = refl
    several false x t e = e

pub apart_from : (xs : List (List ℕ)) → AreElements xs → AreDifferent xs → Apart xs
apart_from [] sized different = tt
apart_from (x ∷ xs) sized different = (
  not_several x (through xs x) (λ h. different x (sized x (inl refl)) (ap (λ b. cond b (with_one x (through xs x)) (through xs x)) (starts_itself x) ∙ h)),
  apart_from xs (λ y m. sized y (inr m)) (λ y l. fewer x y (through xs y) (different y l)),
)

pub root-items : (xs : List (List ℕ)) → AreElements xs → AreDifferent xs → root_of (fin.keys (set_of xs)) ≡ root_at (through xs []) (node (through xs) 36 [])
unfolding root_of
root-items xs sized different =
    let apart = apart_from xs sized different in
    ap₂ root_at (through_items xs apart []) (node_same (through (fin.keys (set_of xs))) (through xs) 36 [] (λ q s. through_items xs apart q))

pub set_removed : (e : List ℕ) (new old : List (List ℕ)) → Inserted e new old → through new e ≡ Empty → set_of new ≡ without (set_of old) e
set_removed e new old (a, b, small, large) gone = same_set (set_of new) (without (set_of old) e) (λ q.
    has-set_of new q
    ∙ (elim (eq_by_cmp order q e) as (λ t. eq_by_cmp order q e ≡ t → any q new ≡ is_some (cond t None (fin.get (set_of old) q))) [
      | true ↦ λ is. false_from_ne_true (any q new) (λ h. not_listed new e gone (subst (λ x. Among x new) (tied q e is) (listed q new h)))
      | false ↦ λ is. sym (
          has-set_of old q ∙ ap (any q) large ∙ any_swap q e a b
          ∙ ap (λ t. t || any q (a ++ b)) is
          ∙ ap (any q) (sym small))
    ] refl)
    ∙ ap is_some (sym (fin.get-remove nat_list_cmp_total (set_of old) e q)))

-- ---- elements stay elements

pub elements_inserted : (e : List ℕ) (xs ys : List (List ℕ)) → Inserted e xs ys → length e ≡ 36 → AreElements xs → AreElements ys
elements_inserted e xs ys (a, b, old, new) sized all x m =
    ⊎_elim (λ same. ap length same ∙ sized) (λ l. all x (subst (Among x) (sym old) l)) (middle a (subst (Among x) new m))
  where
    middle : (a : List (List ℕ)) → Among x (a ++ e ∷ b) → (x ≡ e) ⊎ Among x (a ++ b)
    middle [] h = h
    middle (y ∷ ys) h = ⊎_elim (λ same. inr (inl same)) (λ l. ⊎_elim (λ same. inl same) (λ k. inr (inr k)) (middle ys l)) h

pub elements_removed : (e : List ℕ) (xs ys : List (List ℕ)) → Inserted e xs ys → AreElements ys → AreElements xs
elements_removed e xs ys (a, b, old, new) all x m = all x (subst (Among x) (sym new) (around a (subst (Among x) old m)))
  where
    around : (a : List (List ℕ)) → Among x (a ++ b) → Among x (a ++ e ∷ b)
    around [] h = inr h
    around (y ∷ ys) h = ⊎_elim (λ same. inl same) (λ l. inr (around ys l)) h

pub different_inserted : (e : List ℕ) (xs ys : List (List ℕ)) → Inserted e xs ys → length e ≡ 36 → through xs e ≡ Empty → AreDifferent xs → AreDifferent ys
different_inserted e xs ys ins sized none different x long h =
    elim (starts x e) as (λ t. starts x e ≡ t → ⊥) [
      | true ↦ λ is.
          let same : x ≡ e = starts_whole x e is (long ∙ sym sized) in
          clash (sym (through-inserted e xs ys ins x ∙ ap (λ t. cond t (with_one e (through xs x)) (through xs x)) is ∙ ap (λ y. with_one e (through xs y)) same ∙ ap (with_one e) none) ∙ h)
      | false ↦ λ is. different x long (sym (through-inserted e xs ys ins x ∙ ap (λ t. cond t (with_one e (through xs x)) (through xs x)) is) ∙ h)
    ] refl
  where
    clash : Sole e ≡ Several → ⊥
    clash g = cc

pub different_removed : (e : List ℕ) (xs ys : List (List ℕ)) → Inserted e xs ys → AreDifferent ys → AreDifferent xs
different_removed e xs ys ins different x long h = different x long (through-inserted e xs ys ins x ∙ several (starts x e) e (through xs x) h)
  where
    several : (b : Bool) (e : List ℕ) (t : Through) → t ≡ Several → cond b (with_one e t) t ≡ Several
    several b e t is = ap (λ u. cond b (with_one e u) u) is ∙ both b e
      where
        both : (b : Bool) (e : List ℕ) → cond b (with_one e Several) Several ≡ Several
        both true e = refl
        both false e = refl

-- an element that was there once is gone
pub gone : (e : List ℕ) (xs ys : List (List ℕ)) → Inserted e xs ys → length e ≡ 36 → AreDifferent ys → through xs e ≡ Empty
gone e xs ys ins sized different = not_several e (through xs e) (λ h. different e sized (through-inserted e xs ys ins e ∙ ap (λ t. cond t (with_one e (through xs e)) (through xs e)) (starts_itself e) ∙ h))
