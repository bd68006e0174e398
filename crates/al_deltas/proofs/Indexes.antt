-- An index of creators, made in one pass, under changes, and as what a view looks up.
use Rattle.std.proofs.Common.{◌≡◌, ◌∙◌, ◌↔◌, ◌⊎◌, inl, inr, ℕ, refl, sym, ap, ap₂, subst, List, [], ◌∷◌, Option, Some, None, Bool, true, false, cond, true≢false, is_some, is_eq, nat_eq, eqb-true, ◌&&◌, option_map, is_none, All, Result, Ok, Err, IfOk, IfSome, OnOk}
use mathlib.Core.Bool.{beq}
use Rattle.std.proofs.lemmas.List.Elements.{recursion_from_All}
use Rattle.std.specs.Option.{option_or, unwrap_or}
use Rattle.std.specs.Result.{result_unwrap_or}
use Rattle.std.specs.Cmp.{nat_eq_equiv, tied_itself}
use Rattle.std.specs.List.{AllByRecursion}
use Rattle.std.specs.Map.{lookup}
use Rattle.std.specs.BTreeMap.{BTreeMap, is_at}
use Rattle.std.specs.BTreeMap as tree
use Rattle.std.specs.FinMap.{from_entries, find, entries, entries_sorted, get-entries}
use Rattle.std.specs.Ordering.{nat_cmp}
use Rattle.al_base.specs.declared.address.Address.{Address}
use Rattle.al_base.specs.declared.key.Key.{Key}
use Rattle.al_base.specs.declared.key.Key.TheVariants as key
use Rattle.al_base.specs.Keys.{key_cmp}
use Rattle.al_rows.specs.declared.row.Row.{Row}
use Rattle.al_rows.specs.declared.stored.Stored.{Stored}
use Rattle.al_rows.specs.Finite.{first_some}
use Rattle.al_rows.specs.Rows.{AreCreators, RowMap, bare, creator_at, creator_of, has_params}
use Rattle.al_rows.proofs.Keys.{keys_total}
use Rattle.al_rows.proofs.Maps.{entries_found}
use Rattle.al_rows.proofs.Views.{get-bare}
use Rattle.al_deltas.specs.Index.{DifferAt, IsIndex, shows_params}
use Rattle.al_deltas.proofs.Applied.{at, same_key}

none_some : {A P : Type 0} (x : A) → None ≡ Some x → P
none_some x e = absurd (true≢false (sym (ap is_some e)))

same_some : {A : Type 0} (x y : A) → Some x ≡ Some y → x ≡ y
same_some x y e = ap (λ o. unwrap_or o x) e

same_owner : (a b : Address) (i j : ℕ) → key.Resource a i ≡ key.Resource b j → a ≡ b
same_owner a b i j e = cc

same_id : (a b : Address) (i j : ℕ) → key.Resource a i ≡ key.Resource b j → i ≡ j
same_id a b i j e = cc

itself : (k : Key) → is_at (key_cmp k) k ≡ true
itself k = ap is_eq (tied_itself keys_total k)

both_first : (a b : Bool) → a && b ≡ true → a ≡ true
both_first true b e = refl
both_first false b e = e

both_second : (a b : Bool) → a && b ≡ true → b ≡ true
both_second true b e = e
both_second false b e = absurd (true≢false (sym e))

-- ---- the creator that a row shows

if_some : (a who : Address) (b : Bool) → cond b (Some a) None ≡ Some who → (b ≡ true) × (a ≡ who)
if_some a who true e = (refl, same_some a who e)
if_some a who false e = none_some who e

creator_is : (id : ℕ) (k : Key) (r : Row) (who : Address) → creator_at id k r ≡ Some who → (k ≡ key.Resource who id) × (has_params r ≡ true)
creator_is id (key.Account a) r who e = none_some who e
creator_is id (key.Resource a i) r who e =
    let h = if_some a who (nat_eq i id && has_params r) e in
    (ap₂ key.Resource h.1 (eqb-true i id (both_first (nat_eq i id) (has_params r) h.0)), both_second (nat_eq i id) (has_params r) h.0)
creator_is id (key.Box app name) r who e = none_some who e

creates : (id : ℕ) (k : Key) (r : Row) (who : Address) → key.Resource who id ≡ k → has_params r ≡ true → creator_at id k r ≡ Some who
creates id k r who is params =
    ap (λ q. creator_at id q r) (sym is) ∙ ap₂ (λ a b. cond (a && b) (Some who) None) (nat_eq_equiv.refl id) params

-- ---- an index is what a view looks up

row_shown : (o : Option Stored) (r : Row) → option_map (λ (s : Stored). s.row) o ≡ Some r → has_params r ≡ true → shows_params o ≡ true
row_shown None r e params = none_some r e
row_shown (Some s) r e params = ap has_params (same_some s.row r e) ∙ params

shown_row : (o : Option Stored) → shows_params o ≡ true → (r : Row) × (option_map (λ (s : Stored). s.row) o ≡ Some r) × (has_params r ≡ true)
shown_row None e = absurd (true≢false (sym e))
shown_row (Some s) e = (s.row, refl, e)

-- the first creator among entries has params in one of them
first_has : (id : ℕ) (who : Address) (all es : List (Key × Row)) → AllByRecursion (λ e. find key_cmp e.0 all ≡ Some e.1) es → first_some (λ e. creator_at id e.0 e.1) es ≡ Some who
    → (r : Row) × (find key_cmp (key.Resource who id) all ≡ Some r) × (has_params r ≡ true)
first_has id who all [] h is = none_some who is
first_has id who all (e ∷ es) h is = by_row (creator_at id e.0 e.1) refl (first_has id who all es h.1) is
  where
    by_row : (o : Option Address) → creator_at id e.0 e.1 ≡ o
        → (first_some (λ e. creator_at id e.0 e.1) es ≡ Some who → (r : Row) × (find key_cmp (key.Resource who id) all ≡ Some r) × (has_params r ≡ true))
        → option_or o (first_some (λ e. creator_at id e.0 e.1) es) ≡ Some who → (r : Row) × (find key_cmp (key.Resource who id) all ≡ Some r) × (has_params r ≡ true)
    by_row None o later rest = later rest
    by_row (Some a) o later first =
        let c = creator_is id e.0 e.1 who (o ∙ first) in
        (e.1, ap (λ k. find key_cmp k all) (sym c.0) ∙ h.0, c.1)

later_none : (o p : Option Address) → option_or o p ≡ None → p ≡ None
later_none None p n = n
later_none (Some a) p n = none_some a (sym n)

-- where an entry has params there is a first creator
some_first : (id : ℕ) (who : Address) (r : Row) (es : List (Key × Row)) → find key_cmp (key.Resource who id) es ≡ Some r → has_params r ≡ true → first_some (λ e. creator_at id e.0 e.1) es ≡ None → ⊥
some_first id who r [] is params none = none_some r is
some_first id who r (e ∷ es) is params none = by_key (is_at (key_cmp (key.Resource who id)) e.0) refl (λ found. some_first id who r es found params (later_none (creator_at id e.0 e.1) (first_some (λ e. creator_at id e.0 e.1) es) none)) is
  where
    by_key : (b : Bool) → is_at (key_cmp (key.Resource who id)) e.0 ≡ b → (find key_cmp (key.Resource who id) es ≡ Some r → ⊥) → cond b (Some e.1) (find key_cmp (key.Resource who id) es) ≡ Some r → ⊥
    by_key true t later here =
        let shown : creator_at id e.0 e.1 ≡ Some who = creates id e.0 e.1 who (same_key (key.Resource who id) e.0 t) (ap has_params (same_some e.1 r here) ∙ params) in
        none_some who (sym none ∙ ap (λ o. option_or o (first_some (λ e. creator_at id e.0 e.1) es)) shown)
    by_key false t later there = later there

pub index_creators : (rows : BTreeMap Key Stored) (creators : BTreeMap ℕ Address) → IsIndex rows creators → AreCreators (bare (from_entries rows.entries)) creators
unfolding IsIndex AreCreators creator_of
index_creators rows creators index id = by_both (first_some (λ e. creator_at id e.0 e.1) (entries shown)) (tree.get nat_cmp creators id) refl refl
  where
    shown : RowMap
    shown = bare (from_entries rows.entries)

    under : (who : Address) → find key_cmp (key.Resource who id) (entries shown) ≡ option_map (λ (s : Stored). s.row) (tree.get key_cmp rows (key.Resource who id))
    under who = sym (get-entries shown (key.Resource who id)) ∙ get-bare rows (key.Resource who id)

    by_both : (first noted : Option Address) → first_some (λ e. creator_at id e.0 e.1) (entries shown) ≡ first → tree.get nat_cmp creators id ≡ noted → tree.get nat_cmp creators id ≡ first_some (λ e. creator_at id e.0 e.1) (entries shown)
    by_both (Some a) noted f n =
        let h = first_has id a (entries shown) (entries shown) (entries_found keys_total (entries shown) (entries_sorted shown)) f in
        (index id a).1 (row_shown (tree.get key_cmp rows (key.Resource a id)) h.0 (sym (under a) ∙ h.1) h.2) ∙ sym f
    by_both None None f n = n ∙ sym f
    by_both None (Some a) f n =
        let h = shown_row (tree.get key_cmp rows (key.Resource a id)) ((index id a).0 n) in
        absurd (some_first id a h.0 (entries shown) (under a ∙ h.1) h.2 f)

-- ---- an index under a change

same_test : (a b : Bool) → beq a b ≡ true → a ≡ b
same_test true true e = refl
same_test true false e = sym e
same_test false true e = e
same_test false false e = refl

pub other_test : (a b : Bool) → beq a b ≡ false → b ≡ false → a ≡ true
other_test true b e f = refl
other_test false true e f = sym f
other_test false false e f = sym e

-- a note that was the first of its id
pub noted_first : {E P : Type 0} (r : Result Bool E) (was : Option Address) → result_unwrap_or r false ≡ true → IfOk r (λ first. first ≡ is_none was) → OnOk r P → (was ≡ None) × P
noted_first (Ok b) None e first p = (refl, p)
noted_first (Ok b) (Some a) e first p = absurd (true≢false (sym e ∙ first))
noted_first (Err x) was e first p = absurd (true≢false (sym e))

moved : (k : Key) (old new : BTreeMap Key Stored) (was now : BTreeMap ℕ Address) → IsIndex old was
    → ((q : Key) → is_at (key_cmp k) q ≡ false → tree.get key_cmp new q ≡ tree.get key_cmp old q)
    → ((id : ℕ) (who : Address) → k ≡ key.Resource who id → (tree.get nat_cmp now id ≡ Some who) ↔ (shows_params (tree.get key_cmp new k) ≡ true))
    → ((id : ℕ) (who : Address) → (k ≡ key.Resource who id → ⊥) → (tree.get nat_cmp now id ≡ Some who) ↔ (tree.get nat_cmp was id ≡ Some who))
    → IsIndex new now
unfolding IsIndex
moved k old new was now index others here there = λ id who. by_test id who (is_at (key_cmp k) (key.Resource who id)) refl
  where
    by_test : (id : ℕ) (who : Address) (b : Bool) → is_at (key_cmp k) (key.Resource who id) ≡ b → (tree.get nat_cmp now id ≡ Some who) ↔ (shows_params (tree.get key_cmp new (key.Resource who id)) ≡ true)
    by_test id who true t =
        let is : k ≡ key.Resource who id = same_key k (key.Resource who id) t in
        subst (λ q. (tree.get nat_cmp now id ≡ Some who) ↔ (shows_params (tree.get key_cmp new q) ≡ true)) is (here id who is)
    by_test id who false t =
        let as_was = there id who (λ is. true≢false (sym (itself k) ∙ ap (λ q. is_at (key_cmp k) q) is ∙ t)) in
        let same = ap shows_params (others (key.Resource who id) t) in
        (λ n. same ∙ (index id who).0 (as_was.0 n), λ s. as_was.1 ((index id who).1 (sym same ∙ s)))

-- a change under the key of an account or a box
pub index_apart : (k : Key) (had has : Bool) (old new : BTreeMap Key Stored) (was : BTreeMap ℕ Address) → ((id : ℕ) (who : Address) → k ≡ key.Resource who id → ⊥) → IsIndex old was → DifferAt k had has old new → IsIndex new was
index_apart k had has old new was apart index d = moved k old new was was index d.others (λ id who is. absurd (apart id who is)) (λ id who _. (λ n. n, λ n. n))

-- params stay, or none come
pub index_stays : (k : Key) (had has : Bool) (old new : BTreeMap Key Stored) (was : BTreeMap ℕ Address) → beq had has ≡ true → IsIndex old was → DifferAt k had has old new → IsIndex new was
unfolding IsIndex
index_stays k had has old new was alike index d = moved k old new was was index d.others here (λ id who _. (λ n. n, λ n. n))
  where
    here : (id : ℕ) (who : Address) → k ≡ key.Resource who id → (tree.get nat_cmp was id ≡ Some who) ↔ (shows_params (tree.get key_cmp new k) ≡ true)
    here id who is =
        let as_was : shows_params (tree.get key_cmp new k) ≡ shows_params (tree.get key_cmp old (key.Resource who id)) = sym d.after ∙ sym (same_test had has alike) ∙ d.before ∙ ap (λ q. shows_params (tree.get key_cmp old q)) is in
        (λ n. as_was ∙ (index id who).0 n, λ s. (index id who).1 (sym as_was ∙ s))

module _ (a : Address) (i : ℕ) where
  other_id : (id : ℕ) → (i ≡ id → ⊥) → nat_eq i id ≡ false
  other_id id apart = by_test (nat_eq i id) refl
    where
      by_test : (b : Bool) → nat_eq i id ≡ b → nat_eq i id ≡ false
      by_test true e = absurd (apart (eqb-true i id e))
      by_test false e = e

  -- params come where none is noted
  pub index_noted : (had has : Bool) (old new : BTreeMap Key Stored) (was now : BTreeMap ℕ Address) → has ≡ true → tree.get nat_cmp was i ≡ None
      → ((q : ℕ) → tree.get nat_cmp now q ≡ cond (nat_eq i q) (Some a) (tree.get nat_cmp was q)) → IsIndex old was → DifferAt (key.Resource a i) had has old new → IsIndex new now
  index_noted had has old new was now yes_params none is index d = moved (key.Resource a i) old new was now index d.others here there
    where
      at_id : (id : ℕ) → i ≡ id → tree.get nat_cmp now id ≡ Some a
      at_id id e = is id ∙ ap (λ b. cond b (Some a) (tree.get nat_cmp was id)) (sym (ap (nat_eq i) e) ∙ nat_eq_equiv.refl i)

      here : (id : ℕ) (who : Address) → key.Resource a i ≡ key.Resource who id → (tree.get nat_cmp now id ≡ Some who) ↔ (shows_params (tree.get key_cmp new (key.Resource a i)) ≡ true)
      here id who e = (λ _. sym d.after ∙ yes_params, λ _. at_id id (same_id a who i id e) ∙ ap Some (same_owner a who i id e))

      there : (id : ℕ) (who : Address) → (key.Resource a i ≡ key.Resource who id → ⊥) → (tree.get nat_cmp now id ≡ Some who) ↔ (tree.get nat_cmp was id ≡ Some who)
      there id who apart = by_id (nat_eq i id) refl
        where
          by_id : (b : Bool) → nat_eq i id ≡ b → (tree.get nat_cmp now id ≡ Some who) ↔ (tree.get nat_cmp was id ≡ Some who)
          by_id true e =
              let same = eqb-true i id e in
              (λ n. absurd (apart (ap₂ key.Resource (same_some a who (sym (at_id id same) ∙ n)) same)), λ n. none_some who (sym none ∙ ap (tree.get nat_cmp was) same ∙ n))
          by_id false e =
              let as_was = is id ∙ ap (λ b. cond b (Some a) (tree.get nat_cmp was id)) e in
              (λ n. sym as_was ∙ n, λ n. as_was ∙ n)

  -- params go
  pub index_left : (had has : Bool) (old new : BTreeMap Key Stored) (was now : BTreeMap ℕ Address) → had ≡ true → has ≡ false
      → ((q : ℕ) → tree.get nat_cmp now q ≡ cond (nat_eq i q) None (tree.get nat_cmp was q)) → IsIndex old was → DifferAt (key.Resource a i) had has old new → IsIndex new now
  unfolding IsIndex
  index_left had has old new was now had_params no_params is index d = moved (key.Resource a i) old new was now index d.others here there
    where
      noted : tree.get nat_cmp was i ≡ Some a
      noted = (index i a).1 (sym d.before ∙ had_params)

      gone : (id : ℕ) → i ≡ id → tree.get nat_cmp now id ≡ None
      gone id e = is id ∙ ap (λ b. cond b None (tree.get nat_cmp was id)) (sym (ap (nat_eq i) e) ∙ nat_eq_equiv.refl i)

      here : (id : ℕ) (who : Address) → key.Resource a i ≡ key.Resource who id → (tree.get nat_cmp now id ≡ Some who) ↔ (shows_params (tree.get key_cmp new (key.Resource a i)) ≡ true)
      here id who e = (λ n. none_some who (sym (gone id (same_id a who i id e)) ∙ n), λ s. absurd (true≢false (sym s ∙ sym d.after ∙ no_params)))

      there : (id : ℕ) (who : Address) → (key.Resource a i ≡ key.Resource who id → ⊥) → (tree.get nat_cmp now id ≡ Some who) ↔ (tree.get nat_cmp was id ≡ Some who)
      there id who apart = by_id (nat_eq i id) refl
        where
          by_id : (b : Bool) → nat_eq i id ≡ b → (tree.get nat_cmp now id ≡ Some who) ↔ (tree.get nat_cmp was id ≡ Some who)
          by_id true e =
              let same = eqb-true i id e in
              (λ n. none_some who (sym (gone id same) ∙ n), λ n. absurd (apart (ap₂ key.Resource (same_some a who (sym noted ∙ ap (tree.get nat_cmp was) same ∙ n)) same)))
          by_id false e =
              let as_was = is id ∙ ap (λ b. cond b None (tree.get nat_cmp was id)) e in
              (λ n. sym as_was ∙ n, λ n. as_was ∙ n)

pub put_differs : (k : Key) (had has : Bool) (left : Option Stored) (old new : BTreeMap Key Stored) → had ≡ shows_params (tree.get key_cmp old k) → has ≡ shows_params left
    → ((q : Key) → tree.get key_cmp new q ≡ cond (is_at (key_cmp k) q) left (tree.get key_cmp old q)) → DifferAt k had has old new
put_differs k had has left old new before after is = record {
  before = before;
  after = after ∙ ap shows_params (sym (is k ∙ ap (λ b. cond b left (tree.get key_cmp old k)) (itself k)));
  others = λ q off. is q ∙ ap (λ b. cond b left (tree.get key_cmp old q)) off;
}

pub index_same : (o : Option (BTreeMap ℕ Address)) (old new : BTreeMap Key Stored) → new.entries ≡ old.entries → IfSome o (IsIndex old) → IfSome o (IsIndex new)
unfolding IsIndex
index_same None old new e h = tt
index_same (Some creators) old new e h = λ id who. subst (λ (es : List (Key × Stored)). (tree.get nat_cmp creators id ≡ Some who) ↔ (shows_params (at es (key.Resource who id)) ≡ true)) (sym e) (h id who)

-- ---- an index made in one pass

-- the creators among rows, of which some are still to be gone over
pub record ArePassed (rest all : List (Key × Stored)) (creators : BTreeMap ℕ Address) : Type 0 where
  pub found : AllByRecursion (λ e. at all e.0 ≡ Some e.1) rest
  pub noted : (id : ℕ) (who : Address) → tree.get nat_cmp creators id ≡ Some who → shows_params (at all (key.Resource who id)) ≡ true
  pub whole : (id : ℕ) (who : Address) → shows_params (at all (key.Resource who id)) ≡ true → (tree.get nat_cmp creators id ≡ Some who) ⊎ (shows_params (at rest (key.Resource who id)) ≡ true)

pub passed_none : (rows : BTreeMap Key Stored) (rest : List (Key × Stored)) (creators : BTreeMap ℕ Address) → rest ≡ rows.entries → All (λ e. tree.get key_cmp rows e.0 ≡ Some e.1) rows.entries → creators.entries ≡ [] → ArePassed rest rows.entries creators
passed_none rows rest creators is found empty = record {
  found = subst (AllByRecursion (λ (e : Key × Stored). at rows.entries e.0 ≡ Some e.1)) (sym is) (recursion_from_All (λ (e : Key × Stored). at rows.entries e.0 ≡ Some e.1) rows.entries found);
  noted = λ id who n. none_some who (sym (nothing id) ∙ n);
  whole = λ id who s. inr (ap (λ es. shows_params (at es (key.Resource who id))) is ∙ s);
}
  where
    nothing : (id : ℕ) → tree.get nat_cmp creators id ≡ None
    nothing id = ap (λ (es : List (ℕ × Address)). lookup (is_at (nat_cmp id)) es) empty

pub passed_all : (rows : BTreeMap Key Stored) (creators : BTreeMap ℕ Address) → ArePassed [] rows.entries creators → IsIndex rows creators
unfolding IsIndex
passed_all rows creators p id who = (p.noted id who, λ s. last (p.whole id who s))
  where
    last : (tree.get nat_cmp creators id ≡ Some who) ⊎ (false ≡ true) → tree.get nat_cmp creators id ≡ Some who
    last (inl n) = n
    last (inr e) = absurd (true≢false (sym e))

pub passed_one : (e : Key × Stored) (es all : List (Key × Stored)) (old new : BTreeMap ℕ Address) → ArePassed (e ∷ es) all old
    → ((id : ℕ) (who : Address) → creator_at id e.0 e.1.row ≡ Some who → tree.get nat_cmp old id ≡ None)
    → ((q : ℕ) → tree.get nat_cmp new q ≡ option_or (creator_at q e.0 e.1.row) (tree.get nat_cmp old q)) → ArePassed es all new
passed_one e es all old new p alone is = record { found = p.found.1; noted = noted; whole = λ id who s. whole id who (p.whole id who s) }
  where
    noted : (id : ℕ) (who : Address) → tree.get nat_cmp new id ≡ Some who → shows_params (at all (key.Resource who id)) ≡ true
    noted id who n = by_row (creator_at id e.0 e.1.row) refl (sym (is id) ∙ n)
      where
        by_row : (o : Option Address) → creator_at id e.0 e.1.row ≡ o → option_or o (tree.get nat_cmp old id) ≡ Some who → shows_params (at all (key.Resource who id)) ≡ true
        by_row None o before = p.noted id who before
        by_row (Some a) o now =
            let c = creator_is id e.0 e.1.row who (o ∙ now) in
            ap (λ k. shows_params (at all k)) (sym c.0) ∙ ap shows_params p.found.0 ∙ c.1

    whole : (id : ℕ) (who : Address) → (tree.get nat_cmp old id ≡ Some who) ⊎ (shows_params (at (e ∷ es) (key.Resource who id)) ≡ true) → (tree.get nat_cmp new id ≡ Some who) ⊎ (shows_params (at es (key.Resource who id)) ≡ true)
    whole id who (inl n) = inl (by_row (creator_at id e.0 e.1.row) refl)
      where
        by_row : (o : Option Address) → creator_at id e.0 e.1.row ≡ o → tree.get nat_cmp new id ≡ Some who
        by_row None o = is id ∙ ap (λ c. option_or c (tree.get nat_cmp old id)) o ∙ n
        by_row (Some a) o = none_some who (sym (alone id a o) ∙ n)
    whole id who (inr s) = by_key (is_at (key_cmp (key.Resource who id)) e.0) refl s
      where
        by_key : (b : Bool) → is_at (key_cmp (key.Resource who id)) e.0 ≡ b → shows_params (cond b (Some e.1) (at es (key.Resource who id))) ≡ true → (tree.get nat_cmp new id ≡ Some who) ⊎ (shows_params (at es (key.Resource who id)) ≡ true)
        by_key true t params = inl (is id ∙ ap (λ c. option_or c (tree.get nat_cmp old id)) (creates id e.0 e.1.row who (same_key (key.Resource who id) e.0 t) params))
        by_key false t later = inr later
