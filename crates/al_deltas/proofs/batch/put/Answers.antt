use Rattle.std.proofs.Common.{◌≡◌, subst, cond, Some, Ordering}
use Rattle.std.specs.BTreeMap.{get, is_at}
use Rattle.al_base.specs.declared.key.Key.{Key}
use Rattle.al_rows.proofs.Keys.{derived_order}
use Rattle.al_deltas.proofs.batch.put.Goals as goal

pub returns-in-Ok : goal.returns-in-Ok
returns-in-Ok c =
    subst (λ (R : Key → Key → Ordering). (q : Key) → get R c.insert.new.self q ≡ cond (is_at (R c.args.key.now) q) (Some c.args.stored) (get R c.args.net.now q)) derived_order c.in-Ok.ensures.updates.0
