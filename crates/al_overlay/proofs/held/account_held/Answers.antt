use Rattle.std.proofs.Common.{◌≡◌, ◌∙◌, sym, ap, subst, Some, None, Option, Ordering, IfSome, option_map}
use Rattle.std.specs.BTreeMap.{get}
use Rattle.al_base.specs.declared.key.Key.{Key}
use Rattle.al_base.specs.declared.key.Key.TheVariants as key
use Rattle.al_rows.specs.Rows.{AccountInRange, InRange, account_in}
use Rattle.al_rows.proofs.Keys.{derived_order}
use Rattle.al_overlay.specs.declared.held.Held.{Held}
use Rattle.al_overlay.specs.Held.{at}
use Rattle.al_overlay.proofs.Holds.{held-range}
use Rattle.al_overlay.proofs.Overlays.{at-nows}
use Rattle.al_overlay.proofs.held.account_held.Goals as goal

pub returns-in-Some-clause-value : goal.returns-in-Some-clause-value
returns-in-Some-clause-value c =
    let k = key.Account c.args.who.now in
    let is : Some c.in-Some.held.now ≡ at c.args.rows.now.entries k = subst (λ (R : Key → Key → Ordering). Some c.in-Some.held.now ≡ get R c.args.rows.now k) derived_order c.in-Some.ensures.value in
    ap Some c.account_in.ensures ∙ ap (option_map account_in) (ap (option_map (λ h. h.row)) is ∙ sym (at-nows c.args.rows.now.entries k))

pub returns-in-None-clause-value : goal.returns-in-None-clause-value
returns-in-None-clause-value c =
    let k = key.Account c.args.who.now in
    let is : None ≡ at c.args.rows.now.entries k = subst (λ (R : Key → Key → Ordering). ◌≡◌ {A = Option Held} None (get R c.args.rows.now k)) derived_order c.in-None.ensures.value in
    ap (option_map account_in) (ap (option_map (λ h. h.row)) is ∙ sym (at-nows c.args.rows.now.entries k))

pub returns-in-Some-clause-range : goal.returns-in-Some-clause-range
returns-in-Some-clause-range c =
    let k = key.Account c.args.who.now in
    let is : Some c.in-Some.held.now ≡ at c.args.rows.now.entries k = subst (λ (R : Key → Key → Ordering). Some c.in-Some.held.now ≡ get R c.args.rows.now k) derived_order c.in-Some.ensures.value in
    subst AccountInRange (sym c.account_in.ensures) (held-range c.args.who.now c.in-Some.held.now.row (subst (λ o. IfSome o (λ h. IfSome h.row (InRange k))) (sym is) (c.requires k)))
