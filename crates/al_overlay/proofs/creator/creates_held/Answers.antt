use Rattle.std.proofs.Common.{◌≡◌, ◌∙◌, sym, ap, subst, Some, None, Option, Ordering, option_map}
use Rattle.std.specs.BTreeMap.{get}
use Rattle.al_base.specs.declared.key.Key.{Key}
use Rattle.al_rows.specs.declared.row.Row.{Row}
use Rattle.al_rows.specs.Finite.{or_below}
use Rattle.al_rows.proofs.Keys.{derived_order}
use Rattle.al_overlay.specs.declared.held.Held.{Held}
use Rattle.al_overlay.specs.Creators.{creates}
use Rattle.al_overlay.specs.Held.{at}
use Rattle.al_overlay.proofs.Overlays.{at-nows}
use Rattle.al_overlay.proofs.creator.creates_held.Goals as goal

pub returns-in-Some : goal.returns-in-Some
returns-in-Some c =
    let k = c.args.key.now in
    let is : Some c.in-Some.held.now ≡ at c.args.rows.now.entries k = subst (λ (R : Key → Key → Ordering). Some c.in-Some.held.now ≡ get R c.args.rows.now k) derived_order c.in-Some.ensures.value in
    c.creates.ensures ∙ ap (λ (o : Option Held). creates (or_below (option_map (λ h. h.row) o) None)) is ∙ sym (ap (λ (o : Option (Option Row)). creates (or_below o None)) (at-nows c.args.rows.now.entries k))

pub returns-in-None : goal.returns-in-None
returns-in-None c =
    let k = c.args.key.now in
    let is : None ≡ at c.args.rows.now.entries k = subst (λ (R : Key → Key → Ordering). ◌≡◌ {A = Option Held} None (get R c.args.rows.now k)) derived_order c.in-None.ensures.value in
    ap (λ (o : Option Held). creates (or_below (option_map (λ h. h.row) o) None)) is ∙ sym (ap (λ (o : Option (Option Row)). creates (or_below o None)) (at-nows c.args.rows.now.entries k))
