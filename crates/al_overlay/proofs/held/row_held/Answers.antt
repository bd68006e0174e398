use Rattle.std.proofs.Common.{◌≡◌, ◌∙◌, sym, ap, subst, Some, None, Option, Ordering, IfSome, option_map}
use Rattle.std.specs.BTreeMap.{get}
use Rattle.al_base.specs.declared.key.Key.{Key}
use Rattle.al_rows.specs.Rows.{InRange}
use Rattle.al_rows.proofs.Keys.{derived_order}
use Rattle.al_overlay.specs.declared.held.Held.{Held}
use Rattle.al_overlay.specs.Held.{at}
use Rattle.al_overlay.proofs.Overlays.{at-nows}
use Rattle.al_overlay.proofs.held.row_held.Goals as goal

pub returns-in_ok-copy_row-in-Some-clause-value : goal.returns-in_ok-copy_row-in-Some-clause-value
returns-in_ok-copy_row-in-Some-clause-value c =
    let k = c.args.key.now in
    let is : Some c.in-Some.held.now ≡ at c.args.rows.now.entries k = subst (λ (R : Key → Key → Ordering). Some c.in-Some.held.now ≡ get R c.args.rows.now k) derived_order c.in-Some.ensures.value in
    ap Some c.in_ok-copy_row-in-Some.ensures ∙ ap (option_map (λ h. h.row)) is ∙ sym (at-nows c.args.rows.now.entries k)

pub returns-in-None-clause-value : goal.returns-in-None-clause-value
returns-in-None-clause-value c =
    let k = c.args.key.now in
    let is : None ≡ at c.args.rows.now.entries k = subst (λ (R : Key → Key → Ordering). ◌≡◌ {A = Option Held} None (get R c.args.rows.now k)) derived_order c.in-None.ensures.value in
    ap (option_map (λ h. h.row)) is ∙ sym (at-nows c.args.rows.now.entries k)

pub returns-in_ok-copy_row-in-Some-clause-range : goal.returns-in_ok-copy_row-in-Some-clause-range
returns-in_ok-copy_row-in-Some-clause-range c =
    let k = c.args.key.now in
    let is : Some c.in-Some.held.now ≡ at c.args.rows.now.entries k = subst (λ (R : Key → Key → Ordering). Some c.in-Some.held.now ≡ get R c.args.rows.now k) derived_order c.in-Some.ensures.value in
    subst (λ o. IfSome o (InRange k)) (sym c.in_ok-copy_row-in-Some.ensures) (subst (λ o. IfSome o (λ h. IfSome h.row (InRange k))) (sym is) (c.requires k))
