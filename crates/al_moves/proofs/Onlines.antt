-- The accounts of which consensus knows something else, among the rows that are held.
use Rattle.std.proofs.Common.{◌≡◌, refl, sym, ap, ◌∙◌, subst, List, [], ◌∷◌, map, Option, Some, None, Bool, true, false, ◌&&◌, nat_eq, if◌then◌else◌, option_map, Result, Ok, Err, IfOk, IfSome}
use Rattle.std.specs.Cmp.{nat_eq_equiv}
use Rattle.std.specs.Cmp.Lexicographic.{nat_list_eq_equiv}
use Rattle.std.specs.List.Sorted.{IsStrictlySortedBy}
use Rattle.std.specs.FinMap.{get}
use Rattle.al_base.specs.declared.address.Address.{Address}
use Rattle.al_base.specs.declared.key.Key.{Key}
use Rattle.al_base.specs.declared.key.Key.TheVariants as key
use Rattle.al_base.specs.declared.online.OnlineChange.{OnlineChange}
use Rattle.al_base.specs.declared.online.OnlineData.{OnlineData}
use Rattle.al_base.specs.contracts.online.OnlineDataPartialEq.TheImpl as derived
use Rattle.al_base.specs.Keys.{address_cmp, key_cmp}
use Rattle.al_rows.specs.declared.row.Row.{Row}
use Rattle.al_rows.specs.Finite.{or_below, overlaid}
use Rattle.al_rows.specs.Rows.{RowMap, account_in, same_bytes}
use Rattle.al_rows.proofs.Keys.{exact_keys}
use Rattle.al_overlay.specs.declared.held.Held.{Held}
use Rattle.al_overlay.specs.Held.{at, nows, IsWork}
use Rattle.al_moves.specs.Online.{AreOnlineChanges, changed_at, changed_onlines, online_change_of, online_of, same_online}
use Rattle.al_overlay.proofs.Overlays.{at-nows, get-now}
use Rattle.al_moves.proofs.Picks.{differing_key, differing_value, found, picked_at, picked_ordered}

and_true : (a b : Bool) → a ≡ true → b ≡ true → (a && b) ≡ true
and_true true b p q = q
and_true false b p q = p

online_itself : (o : Option OnlineData) → same_online o o ≡ true
online_itself None = refl
online_itself (Some d) =
    and_true _ _ (and_true _ _ (and_true _ _ (and_true _ _ (and_true _ _ (and_true _ _ ((nat_eq_equiv).refl d.balance) ((nat_eq_equiv).refl d.base)) ((nat_eq_equiv).refl d.first)) ((nat_eq_equiv).refl d.last)) ((nat_eq_equiv).refl d.dilution)) ((nat_list_eq_equiv).refl d.vote)) ((nat_list_eq_equiv).refl d.selection)

nested : (a b c d e f g : Bool) → (a && (b && (c && (d && (e && (f && g)))))) ≡ (((((((a && b) && c) && d) && e) && f)) && g)
nested false b c d e f g = refl
nested true false c d e f g = refl
nested true true false d e f g = refl
nested true true true false e f g = refl
nested true true true true false f g = refl
nested true true true true true false g = refl
nested true true true true true true g = refl

-- the derived comparison is this test
pub online_tests : (a b : OnlineData) → (derived.eq-value).it a b ≡ same_online (Some a) (Some b)
online_tests a b = nested (nat_eq a.balance b.balance) (nat_eq a.base b.base) (nat_eq a.first b.first) (nat_eq a.last b.last) (nat_eq a.dilution b.dilution) (same_bytes a.vote b.vote) (same_bytes a.selection b.selection)

-- what is answered of an account: what consensus knows of it now, where it differs
abbrev answered : Option OnlineData → Option OnlineData → Option (Option OnlineData)
answered before now = if same_online before now then None else Some now

place_at : (k : Key) (h : Held) (p : Address × Option OnlineData) → changed_at k h ≡ Some p → k ≡ key.Account p.0
place_at (key.Account who) h p e = ap key.Account (differing_key (same_online (online_of (account_in h.block)) (online_of (account_in h.row))) who (online_of (account_in h.row)) p e)
place_at (key.Resource who id) h p e = cc
place_at (key.Box app name) h p e = cc

place : (e : Key × Held) (p : Address × Option OnlineData) → changed_at e.0 e.1 ≡ Some p → e.0 ≡ key.Account p.0
place e p h = place_at e.0 e.1 p h

one : (who : Address) (o : Option Held) (old : Option Row) → IfSome o (λ h. h.block ≡ old)
    → found key_cmp address_cmp exact_keys key.Account (λ _ _. refl) (λ (e : Key × Held). changed_at e.0 e.1) place who o ≡ answered (online_of (account_in old)) (online_of (account_in (or_below (option_map (λ h. h.row) o) old)))
one who None old told = sym (ap (λ b. if b then None else Some (online_of (account_in old))) (online_itself (online_of (account_in old))))
one who (Some h) old told = differing_value (same_online (online_of (account_in h.block)) (online_of (account_in h.row))) who (online_of (account_in h.row)) ∙ ap (λ (z : Option Row). answered (online_of (account_in z)) (online_of (account_in h.row))) told

module _ (es : List (Key × Held)) (ordered : IsStrictlySortedBy key_cmp (map (λ e. e.0) es)) where
  changed_ordered : IsStrictlySortedBy address_cmp (map (λ e. e.0) (changed_onlines es))
  changed_ordered = picked_ordered key_cmp address_cmp exact_keys key.Account (λ _ _. refl) (λ (e : Key × Held). changed_at e.0 e.1) place es ordered

  changed_accounts : {t : Bool} {ss : List (Key × Option Row)} (m : RowMap) → IsWork t m es ss → t ≡ true → AreOnlineChanges m (overlaid (nows es) m) (changed_onlines es)
  changed_accounts m w told = record {
    ordered = changed_ordered;
    each = λ who.
        let k = key.Account who in
        picked_at key_cmp address_cmp exact_keys key.Account (λ _ _. refl) (λ (e : Key × Held). changed_at e.0 e.1) place who es ordered
        ∙ one who (at es k) (get m k) (w.told told k)
        ∙ ap (λ (o : Option (Option Row)). answered (online_of (account_in (get m k))) (online_of (account_in (or_below o (get m k))))) (sym (at-nows es k))
        ∙ ap (λ (z : Option Row). answered (online_of (account_in (get m k))) (online_of (account_in z))) (sym (get-now (nows es) m k));
  }

  addresses_of : (cs : List OnlineChange) → map (λ c. c.address) cs ≡ map (λ e. e.0) (map online_change_of cs)
  addresses_of [] = refl
  addresses_of (c ∷ cs) = ap (λ who. c.address ∷ who) (addresses_of cs)

  -- what a work answers, from the list that its loop makes
  pub answered_changes : {E : Type 0} (r : Result (List OnlineChange) E) {t : Bool} {ss : List (Key × Option Row)} (m : RowMap) → IsWork t m es ss → t ≡ true
      → IfOk r (λ cs. map online_change_of cs ≡ changed_onlines es) → IfOk r (λ cs. AreOnlineChanges m (overlaid (nows es) m) (map online_change_of cs))
  answered_changes (Ok cs) m w told is = subst (AreOnlineChanges m (overlaid (nows es) m)) (sym is) (changed_accounts m w told)
  answered_changes (Err e) m w told is = tt

  pub answered_ordered : {E : Type 0} (r : Result (List OnlineChange) E) → IfOk r (λ cs. map online_change_of cs ≡ changed_onlines es) → IfOk r (λ cs. IsStrictlySortedBy address_cmp (map (λ c. c.address) cs))
  answered_ordered (Ok cs) is = subst (IsStrictlySortedBy address_cmp) (sym (addresses_of cs ∙ ap (map (λ e. e.0)) is)) changed_ordered
  answered_ordered (Err e) is = tt
