-- What changes one after another leave of an account.
use Rattle.std.proofs.Common.{◌≡◌, ◌∙◌, ℕ, ◌+◌, ◌<◌, refl, sym, ap, subst, List, [], ◌∷◌, ◌++◌, length, map, take, get_or, Option, Some, None, Result, Ok, Err, IfOk, Bool, true, false, cond, Ordering, Less, Equal, Greater, is_eq}
use Rattle.std.proofs.lemmas.List.{map-append, take_more}
use Rattle.std.specs.BTreeMap as tree
use Rattle.std.specs.BTreeMap.{BTreeMap, IsOrdered, is_at}
use Rattle.std.specs.Cmp.{eq_by_cmp_equiv}
use Rattle.std.specs.FinMap.{get, get-insert, get-remove, same_map}
use Rattle.std.specs.List.{AllByRecursion}
use Rattle.std.specs.List.Sorted.{IsStrictlySortedBy}
use Rattle.std.specs.Map.{lookup}
use Rattle.std.specs.Ordering.{eq_by_cmp}
use Rattle.al_base.specs.declared.address.Address.{Address}
use Rattle.al_base.specs.declared.online.OnlineChange.{OnlineChange}
use Rattle.al_base.specs.declared.online.OnlineData.{OnlineData}
use Rattle.al_base.specs.declared.online.Version.{Version}
use Rattle.al_base.specs.Keys.{address_cmp}
use Rattle.al_online.specs.Memory.{IsEachOnce}
use Rattle.al_online.specs.Stakes.{OnlineMap, set_online, with_changes}
use Rattle.al_online.proofs.Once.{once_where_rising}
use Rattle.al_online.proofs.Snaps.{addresses_total, exact_addresses}
use Rattle.al_rows.specs.Finite.{or_below}
use Rattle.al_history.specs.History.{change_of}
use Rattle.al_history.specs.Reading.{AreLatest, ComeToSame, pair_of}

pub equal : (r : Ordering) → is_eq r ≡ true → r ≡ Equal
equal Less p = cc
equal Equal p = refl
equal Greater p = cc

pub get-set : (a : Address) (now : Option OnlineData) (m : OnlineMap) (who : Address) → get (set_online a now m) who ≡ cond (eq_by_cmp address_cmp who a) now (get m who)
get-set a None m who = get-remove addresses_total m a who
get-set a (Some d) m who = get-insert addresses_total m a d who

pub with-append : (cs ds : List OnlineChange) (m : OnlineMap) → with_changes (cs ++ ds) m ≡ with_changes ds (with_changes cs m)
with-append [] ds m = refl
with-append (c ∷ cs) ds m = with-append cs ds (set_online c.address c.now m)

-- ---- a version put in place of an earlier one

over : (b : Bool) (now : Option OnlineData) (old : Option (Option OnlineData)) (o : Option OnlineData) → cond b now (or_below old o) ≡ or_below (cond b (Some now) old) o
over true now old o = refl
over false now old o = refl

pub latest_more : (vs : List Version) (i : ℕ) (d : Version) (old new : Address → Option (Option OnlineData)) → i < length vs → AreLatest (map change_of (take i vs)) old → ((q : Address) → new q ≡ cond (is_at (address_cmp (get_or vs i d).address) q) (Some (get_or vs i d).now) (old q)) → AreLatest (map change_of (take (i + 1) vs)) new
latest_more vs i d old new l h put m who =
    let v : Version = get_or vs i d in
    let more : map change_of (take (i + 1) vs) ≡ map change_of (take i vs) ++ change_of v ∷ [] = ap (map change_of) (take_more vs i d l) ∙ map-append change_of (take i vs) (v ∷ []) in
    ap (λ (cs : List OnlineChange). get (with_changes cs m) who) more
    ∙ ap (λ (o : OnlineMap). get o who) (with-append (map change_of (take i vs)) (change_of v ∷ []) m)
    ∙ get-set v.address v.now (with_changes (map change_of (take i vs)) m) who
    ∙ ap (cond (eq_by_cmp address_cmp who v.address) v.now) (h m who)
    ∙ ap (λ b. cond b v.now (or_below (old who) (get m who))) ((eq_by_cmp_equiv addresses_total).symm who v.address)
    ∙ over (is_at (address_cmp v.address) who) v.now (old who) (get m who)
    ∙ ap (λ o. or_below o (get m who)) (sym (put who))

-- ---- changes of each account once

none_later : (who a : Address) (es : List (Address × Option OnlineData)) → address_cmp who a ≡ Equal → AllByRecursion (λ b. address_cmp a b ≡ Less) (map (λ e. e.0) es) → lookup (is_at (address_cmp who)) es ≡ None
none_later who a [] e h = refl
none_later who a (x ∷ es) e h =
    let less : address_cmp who x.0 ≡ Less = subst (λ w. address_cmp w x.0 ≡ Less) (sym (exact_addresses who a e)) h.0 in
    ap (λ r. cond (is_eq r) (Some x.1) (lookup (is_at (address_cmp who)) es)) less ∙ none_later who a es e h.1

-- an account after changes: its own, or what it was
changed_is : (cs : List OnlineChange) (m : OnlineMap) (who : Address) → IsStrictlySortedBy address_cmp (map (λ e. e.0) (map pair_of cs)) → get (with_changes cs m) who ≡ or_below (lookup (is_at (address_cmp who)) (map pair_of cs)) (get m who)
unfolding IsStrictlySortedBy
changed_is [] m who h = refl
changed_is (c ∷ cs) m who h =
    changed_is cs (set_online c.address c.now m) who h.1
    ∙ ap (or_below (lookup (is_at (address_cmp who)) (map pair_of cs))) (get-set c.address c.now m who)
    ∙ by_test (is_eq (address_cmp who c.address)) refl
  where
    later : Option (Option OnlineData)
    later = lookup (is_at (address_cmp who)) (map pair_of cs)

    by_test : (b : Bool) → is_eq (address_cmp who c.address) ≡ b → or_below later (cond b c.now (get m who)) ≡ or_below (cond b (Some c.now) later) (get m who)
    by_test true e = ap (λ o. or_below o c.now) (none_later who c.address (map pair_of cs) (equal (address_cmp who c.address) e) h.0)
    by_test false e = refl

firsts_are : (cs : List OnlineChange) → map (λ e. e.0) (map pair_of cs) ≡ map (λ c. c.address) cs
firsts_are [] = refl
firsts_are (c ∷ cs) = ap (λ ads. c.address ∷ ads) (firsts_are cs)

in_place : (cs : List OnlineChange) (latest : BTreeMap Address (Option OnlineData)) → map pair_of cs ≡ latest.entries → IsOrdered address_cmp latest → IsStrictlySortedBy address_cmp (map (λ e. e.0) (map pair_of cs))
in_place cs latest e h = subst (λ (es : List (Address × Option OnlineData)). IsStrictlySortedBy address_cmp (map (λ e. e.0) es)) (sym e) h

once_is : (cs : List OnlineChange) (latest : BTreeMap Address (Option OnlineData)) → IsOrdered address_cmp latest → map pair_of cs ≡ latest.entries → IsEachOnce cs
once_is cs latest h e = once_where_rising cs (subst (IsStrictlySortedBy address_cmp) (firsts_are cs) (in_place cs latest e h))

same_is : (cs ds : List OnlineChange) (latest : BTreeMap Address (Option OnlineData)) → IsOrdered address_cmp latest → AreLatest ds (tree.get address_cmp latest) → map pair_of cs ≡ latest.entries → ComeToSame cs ds
same_is cs ds latest h are e m = same_map addresses_total exact_addresses (with_changes cs m) (with_changes ds m) (λ who.
    changed_is cs m who (in_place cs latest e h)
    ∙ ap (λ (es : List (Address × Option OnlineData)). or_below (lookup (is_at (address_cmp who)) es) (get m who)) e
    ∙ sym (are m who))

pub answered_once : {E : Type 0} (r : Result (List OnlineChange) E) (latest : BTreeMap Address (Option OnlineData)) → IsOrdered address_cmp latest → IfOk r (λ cs. map pair_of cs ≡ latest.entries) → IfOk r IsEachOnce
answered_once (Ok cs) latest h e = once_is cs latest h e
answered_once (Err x) latest h e = tt

pub answered_same : {E : Type 0} (r : Result (List OnlineChange) E) (ds : List OnlineChange) (latest : BTreeMap Address (Option OnlineData)) → IsOrdered address_cmp latest → AreLatest ds (tree.get address_cmp latest) → IfOk r (λ cs. map pair_of cs ≡ latest.entries) → IfOk r (λ cs. ComeToSame cs ds)
answered_same (Ok cs) ds latest h are e = same_is cs ds latest h are e
answered_same (Err x) ds latest h are e = tt
