-- The first shortfall among what changed is the first of all.
use Rattle.std.proofs.Common.{◌≡◌, ℕ, refl, sym, ap, ap₂, ◌∙◌, subst, List, map, Option, Some, None, Bool, true, false, cond, IsSome, is_some, is_none, true≢false, ◌||◌, ⊎_elim}
use Rattle.std.specs.List.Sorted.{IsStrictlySortedBy}
use Rattle.std.specs.FinMap.{get, entries, entries_sorted, get-entries}
use Rattle.al_base.specs.declared.key.Key.{Key}
use Rattle.al_base.specs.declared.key.Key.TheVariants as key
use Rattle.al_rows.specs.declared.row.Row.{Row}
use Rattle.al_base.specs.Keys.{key_cmp}
use Rattle.al_rows.specs.Finite.{overlaid, or_below}
use Rattle.al_rows.specs.Finite.{first_some}
use Rattle.al_rows.specs.Rows.{RowMap, same_row, account_in}
use Rattle.al_rows.proofs.Sames.{same_itself}
use Rattle.al_base.specs.declared.account.Special.{Special}
use Rattle.al_rows.proofs.Keys.{keys_total}
use Rattle.al_rows.proofs.Maps.{find-lookup}
use Rattle.al_overlay.specs.declared.rule.Rule.{Rule}
use Rattle.al_overlay.specs.Accounts.{same_address}
use Rattle.al_moves.specs.Minimum.{shortfall, first_shortfall, lacking}
use Rattle.al_overlay.specs.Held.{at, now_at}
use Rattle.al_overlay.proofs.Overlays.{get-now, has}
use Rattle.al_overlay.proofs.Firsts.{first_same, first_over, each_found, all_more, sorted}

-- a test with a true part passes
third : (a b d : Bool) → (a || b || true || d) ≡ true
third true b d = refl
third false true d = refl
third false false d = refl

fourth : (a b c : Bool) → (a || b || c || true) ≡ true
fourth true b c = refl
fourth false true c = refl
fourth false false true = refl
fourth false false false = refl

module _ (level : ℕ) (special : Special) where
  none_there : (q : Key) (old : Option Row) → shortfall level special q old None ≡ None
  none_there (key.Resource a i) old = refl
  none_there (key.Box i n) old = refl
  none_there (key.Account who) old = ap (λ b. cond b None (lacking level who (account_in None))) (third (same_address who special.sink) (same_address who special.pool) (same_row old None))

  none_changed : (q : Key) (o : Option Row) → shortfall level special q o o ≡ None
  none_changed (key.Resource a i) o = refl
  none_changed (key.Box i n) o = refl
  none_changed (key.Account who) o =
      ap (λ b. cond (same_address who special.sink || same_address who special.pool || is_none o || b) None (lacking level who (account_in o))) (same_itself o)
      ∙ ap (λ b. cond b None (lacking level who (account_in o))) (fourth (same_address who special.sink) (same_address who special.pool) (is_none o))

  not_none : (o : Option Rule) → o ≡ None → is_some o ≡ true → ⊥
  not_none o e h = true≢false (sym h ∙ ap is_some e)

  is_there : (q : Key) (old now : Option Row) → is_some (shortfall level special q old now) ≡ true → IsSome now
  is_there q old None h = absurd (not_none _ (none_there q old) h)
  is_there q old (Some r) h = refl

  module _ (m : RowMap) (rs ss : List (Key × Option Row)) (within : (q : Key) → IsSome (at ss q) → IsSome (at rs q)) where
    now_is : (q : Key) → IsSome (at ss q) → now_at rs q ≡ get (overlaid rs m) q
    now_is q h = by_change (at rs q) (within q h) ∙ sym (get-now rs m q)
      where
        by_change : (o : Option (Option Row)) → IsSome o → or_below o None ≡ or_below o (get m q)
        by_change None h = absurd (true≢false (sym h))
        by_change (Some x) h = refl

    pub first_shortfall-changed : IsStrictlySortedBy key_cmp (map (λ e. e.0) ss)
        → first_some (λ e. shortfall level special e.0 e.1 (now_at rs e.0)) ss ≡ first_shortfall level special (overlaid ss (overlaid rs m)) (overlaid rs m)
    unfolding first_shortfall
    first_shortfall-changed ordered =
        let now = overlaid rs m in
        let start = overlaid ss now in
        let f = λ (q : Key). shortfall level special q (get start q) (get now q) in
        first_over (λ e. shortfall level special e.0 e.1 (now_at rs e.0)) f ss (all_more ss (λ e is.
        let found : at ss e.0 ≡ Some e.1 = sym (find-lookup keys_total ss e.0) ∙ is in
        ap₂ (shortfall level special e.0) (sym (get-now ss now e.0 ∙ ap (λ o. or_below o (get now e.0)) found)) (now_is e.0 (ap is_some found)))
        (each_found ss (sorted ss ordered)))
        ∙ first_same f ss (entries now) (sorted ss ordered) (entries_sorted now)
        (λ q h. subst IsSome (sym (find-lookup keys_total ss q)) (⊎_elim
        (λ none. absurd (not_none _ (ap (λ o. shortfall level special q o (get now q)) (get-now ss now q ∙ ap (λ o. or_below o (get now q)) none) ∙ none_changed q (get now q)) h))
        (λ some. some)
        (has (at ss q))))
        (λ q h. subst IsSome (get-entries now q) (is_there q (get start q) (get now q) h))
