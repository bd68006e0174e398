-- An asset or an application whose parameters stand in a row is found by its number.
use Rattle.std.proofs.Common.{◌≡◌, ◌∙◌, ℕ, refl, sym, ap, ap₂, List, [], ◌∷◌, Option, Some, None, Bool, true, false, cond, true≢false, nat_eq, eqb-true, ◌&&◌}
use Rattle.std.specs.Option.{option_or}
use Rattle.std.specs.Cmp.{nat_eq_equiv}
use Rattle.std.specs.List.{AllByRecursion}
use Rattle.std.specs.BTreeMap.{is_at}
use Rattle.std.specs.FinMap.{get, find, entries, entries_sorted, get-entries}
use Rattle.al_base.specs.declared.address.Address.{Address}
use Rattle.al_base.specs.declared.key.Key.{Key}
use Rattle.al_base.specs.declared.key.Key.TheVariants as key
use Rattle.al_base.specs.Keys.{key_cmp}
use Rattle.al_rows.specs.declared.row.Row.{Row}
use Rattle.al_rows.specs.Finite.{first_some}
use Rattle.al_rows.specs.Rows.{RowMap, creator_at, creator_of, has_params}
use Rattle.al_rows.proofs.Keys.{keys_total}
use Rattle.al_rows.proofs.Maps.{entries_found}
use Rattle.al_overlay.proofs.Overlays.{same_key}
use Rattle.al_resources.proofs.Recounts.{none_some, some_same}

both_first : (a b : Bool) → (a && b) ≡ true → a ≡ true
both_first true b e = refl
both_first false b e = e

both_second : (a b : Bool) → (a && b) ≡ true → b ≡ true
both_second true b e = e
both_second false b e = absurd (true≢false (sym e))

if_some : (a who : Address) (b : Bool) → cond b (Some a) None ≡ Some who → (b ≡ true) × (a ≡ who)
if_some a who true e = (refl, some_same a who e)
if_some a who false e = absurd (none_some who e)

-- what shows a creator is a row with parameters
shows : (id : ℕ) (k : Key) (r : Row) (who : Address) → creator_at id k r ≡ Some who → (k ≡ key.Resource who id) × (has_params r ≡ true)
shows id (key.Account a) r who e = absurd (none_some who e)
shows id (key.Box app name) r who e = absurd (none_some who e)
shows id (key.Resource a i) r who e =
    let h = if_some a who (nat_eq i id && has_params r) e in
    (ap₂ key.Resource h.1 (eqb-true i id (both_first (nat_eq i id) (has_params r) h.0)), both_second (nat_eq i id) (has_params r) h.0)

shown : (id : ℕ) (k : Key) (r : Row) (who : Address) → key.Resource who id ≡ k → has_params r ≡ true → creator_at id k r ≡ Some who
shown id k r who is has = ap (λ q. creator_at id q r) (sym is) ∙ ap₂ (λ a b. cond (a && b) (Some who) None) (nat_eq_equiv.refl id) has

-- the row of an address has parameters
abbrev pub HasParams : ℕ → (Key → Option Row) → Address → Type 0
HasParams id at who = (r : Row) × (at (key.Resource who id) ≡ Some r) × (has_params r ≡ true)

first_has : (id : ℕ) (who : Address) (all es : List (Key × Row)) → AllByRecursion (λ e. find key_cmp e.0 all ≡ Some e.1) es → first_some (λ e. creator_at id e.0 e.1) es ≡ Some who → HasParams id (λ k. find key_cmp k all) who
first_has id who all [] h is = absurd (none_some who is)
first_has id who all (e ∷ es) h is = by_row (creator_at id e.0 e.1) refl (first_has id who all es h.1) is
  where
    by_row : (o : Option Address) → creator_at id e.0 e.1 ≡ o → (first_some (λ e. creator_at id e.0 e.1) es ≡ Some who → HasParams id (λ k. find key_cmp k all) who) → option_or o (first_some (λ e. creator_at id e.0 e.1) es) ≡ Some who → HasParams id (λ k. find key_cmp k all) who
    by_row None o later rest = later rest
    by_row (Some a) o later first = let c = shows id e.0 e.1 who (o ∙ first) in (e.1, ap (λ k. find key_cmp k all) (sym c.0) ∙ h.0, c.1)

pub creator_has : (m : RowMap) (id : ℕ) (who : Address) → creator_of m id ≡ Some who → HasParams id (get m) who
unfolding creator_of
creator_has m id who is =
    let h = first_has id who (entries m) (entries m) (entries_found keys_total (entries m) (entries_sorted m)) is in
    (h.0, get-entries m (key.Resource who id) ∙ h.1, h.2)

later_none : (o p : Option Address) → option_or o p ≡ None → p ≡ None
later_none None p n = n
later_none (Some a) p n = absurd (none_some a (sym n))

some_first : (id : ℕ) (who : Address) (r : Row) (es : List (Key × Row)) → find key_cmp (key.Resource who id) es ≡ Some r → has_params r ≡ true → first_some (λ e. creator_at id e.0 e.1) es ≡ None → ⊥
some_first id who r [] is has none = none_some r is
some_first id who r (e ∷ es) is has none = by_key (is_at (key_cmp (key.Resource who id)) e.0) refl (λ found. some_first id who r es found has (later_none (creator_at id e.0 e.1) (first_some (λ e. creator_at id e.0 e.1) es) none)) is
  where
    by_key : (b : Bool) → is_at (key_cmp (key.Resource who id)) e.0 ≡ b → (find key_cmp (key.Resource who id) es ≡ Some r → ⊥) → cond b (Some e.1) (find key_cmp (key.Resource who id) es) ≡ Some r → ⊥
    by_key true t later here =
        let s : creator_at id e.0 e.1 ≡ Some who = shown id e.0 e.1 who (same_key (key.Resource who id) e.0 t) (ap has_params (some_same e.1 r here) ∙ has) in
        none_some who (sym none ∙ ap (λ o. option_or o (first_some (λ e. creator_at id e.0 e.1) es)) s)
    by_key false t later there = later there

pub has_creator : (m : RowMap) (id : ℕ) (who : Address) (r : Row) → get m (key.Resource who id) ≡ Some r → has_params r ≡ true → creator_of m id ≡ None → ⊥
unfolding creator_of
has_creator m id who r is has none = some_first id who r (entries m) (sym (get-entries m (key.Resource who id)) ∙ is) has none
