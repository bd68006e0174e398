use Rattle.std.proofs.Common.{◌≡◌, ◌∙◌, subst, is_some, Ordering}
use Rattle.std.specs.BTreeMap.{get}
use Rattle.al_base.specs.declared.key.Key.{Key}
use Rattle.al_rows.proofs.Keys.{derived_order}
use Rattle.al_overlay.proofs.Overlays.{now-there}
use Rattle.al_overlay.proofs.held.is_held.Goals as goal

pub returns : goal.returns
returns c =
    subst (λ (R : Key → Key → Ordering). c.contains_key.result ≡ is_some (get R c.args.rows.now c.args.key.now)) derived_order c.contains_key.ensures
    ∙ now-there c.args.rows.now.entries c.args.key.now
