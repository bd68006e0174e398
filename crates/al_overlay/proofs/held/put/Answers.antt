use Rattle.std.proofs.Common.{◌≡◌, subst, cond, Some, Ordering}
use Rattle.std.specs.BTreeMap.{get, is_at}
use Rattle.al_base.specs.declared.key.Key.{Key}
use Rattle.al_rows.proofs.Keys.{derived_order}
use Rattle.al_overlay.proofs.held.put.Goals as goal

pub returns-in-Ok-clause-ok : goal.returns-in-Ok-clause-ok
returns-in-Ok-clause-ok c =
    subst (λ (R : Key → Key → Ordering). (q : Key) → get R c.insert.new.self q ≡ cond (is_at (R c.args.key.now) q) (Some c.args.held) (get R c.args.rows.now q)) derived_order c.in-Ok.ensures.updates.0
