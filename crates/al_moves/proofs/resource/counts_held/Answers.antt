use Rattle.std.proofs.Common.{◌≡◌, ◌∙◌, sym, ap, subst, Some, None, Option, Ordering, IfSome, option_map}
use Rattle.std.specs.BTreeMap.{get}
use Rattle.al_base.specs.declared.key.Key.{Key}
use Rattle.al_rows.specs.Rows.{InRange}
use Rattle.al_rows.proofs.Keys.{derived_order}
use Rattle.al_overlay.specs.declared.held.Held.{Held}
use Rattle.al_moves.specs.Resources.{counts_at}
use Rattle.al_overlay.specs.Held.{at}
use Rattle.al_overlay.proofs.Overlays.{at-nows}
use Rattle.al_moves.proofs.resource.counts_held.Goals as goal

pub counts_at-requires : goal.counts_at-requires
counts_at-requires c =
    let k = c.args.key.now in
    let is : Some c.in-Some.held.now ≡ at c.args.rows.now.entries k = subst (λ (R : Key → Key → Ordering). Some c.in-Some.held.now ≡ get R c.args.rows.now k) derived_order c.in-Some.ensures.value in
    subst (λ o. IfSome o (λ h. IfSome h.row (InRange k))) (sym is) (c.requires k)

pub returns-in-Some : goal.returns-in-Some
returns-in-Some c =
    let k = c.args.key.now in
    let is : Some c.in-Some.held.now ≡ at c.args.rows.now.entries k = subst (λ (R : Key → Key → Ordering). Some c.in-Some.held.now ≡ get R c.args.rows.now k) derived_order c.in-Some.ensures.value in
    ap Some c.counts_at.ensures ∙ ap (option_map (counts_at k)) (ap (option_map (λ h. h.row)) is ∙ sym (at-nows c.args.rows.now.entries k))

pub returns-in-None : goal.returns-in-None
returns-in-None c =
    let k = c.args.key.now in
    let is : None ≡ at c.args.rows.now.entries k = subst (λ (R : Key → Key → Ordering). ◌≡◌ {A = Option Held} None (get R c.args.rows.now k)) derived_order c.in-None.ensures.value in
    ap (option_map (counts_at k)) (ap (option_map (λ h. h.row)) is ∙ sym (at-nows c.args.rows.now.entries k))
