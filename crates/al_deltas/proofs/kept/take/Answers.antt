use Rattle.std.proofs.Common.{◌≡◌, subst, cond, Ordering, None, Option}
use Rattle.std.specs.BTreeMap.{get, is_at}
use Rattle.al_base.specs.declared.key.Key.{Key}
use Rattle.al_rows.specs.declared.stored.Stored.{Stored}
use Rattle.al_rows.proofs.Keys.{derived_order}
use Rattle.al_deltas.proofs.kept.take.Goals as goal

pub returns-clause-taken : goal.returns-clause-taken
returns-clause-taken c =
    subst (λ (R : Key → Key → Ordering). (q : Key) → get R c.remove.new.self q ≡ cond {A = Option Stored} (is_at (R c.args.key.now) q) None (get R c.args.rows.now q)) derived_order c.remove.ensures.updates.0
