use Rattle.std.proofs.Common.{◌≡◌, ◌∙◌, sym, ap, subst, Option, Some, None, IfSome, Ordering, option_map}
use Rattle.std.specs.BTreeMap.{get}
use Rattle.al_base.specs.declared.key.Key.{Key}
use Rattle.al_rows.specs.Finite.{or_below}
use Rattle.al_rows.proofs.Keys.{derived_order}
use Rattle.al_moves.specs.Minimum.{shortfall}
use Rattle.al_rows.specs.Rows.{InRange}
use Rattle.al_overlay.specs.declared.held.Held.{Held}
use Rattle.al_overlay.specs.Held.{at}
use Rattle.al_overlay.proofs.Overlays.{at-nows}
use Rattle.al_moves.proofs.minimum.shortfall_at.Goals as goal

pub shortfall-requires : goal.shortfall-requires
shortfall-requires c =
    let is : Some c.in-Some.held.now ≡ at c.args.rows.now.entries c.args.key.now = subst (λ (R : Key → Key → Ordering). Some c.in-Some.held.now ≡ get R c.args.rows.now c.args.key.now) derived_order c.in-Some.ensures.value in
    subst (λ o. IfSome o (λ h. IfSome h.row (InRange c.args.key.now))) (sym is) c.requires

pub returns-in-Some : goal.returns-in-Some
returns-in-Some c =
    let is : Some c.in-Some.held.now ≡ at c.args.rows.now.entries c.args.key.now = subst (λ (R : Key → Key → Ordering). Some c.in-Some.held.now ≡ get R c.args.rows.now c.args.key.now) derived_order c.in-Some.ensures.value in
    c.shortfall.ensures ∙ ap (λ o. shortfall c.args.level c.args.special.now c.args.key.now c.args.old.now (or_below o None)) (ap (option_map (λ h. h.row)) is ∙ sym (at-nows c.args.rows.now.entries c.args.key.now))

pub returns-in-None : goal.returns-in-None
returns-in-None c =
    let k = c.args.key.now in
    let is : None ≡ at c.args.rows.now.entries k = subst (λ (R : Key → Key → Ordering). ◌≡◌ {A = Option Held} None (get R c.args.rows.now k)) derived_order c.in-None.ensures.value in
    c.shortfall-in-None.ensures ∙ ap (λ o. shortfall c.args.level c.args.special.now k c.args.old.now (or_below o None)) (ap (option_map (λ h. h.row)) is ∙ sym (at-nows c.args.rows.now.entries k))
