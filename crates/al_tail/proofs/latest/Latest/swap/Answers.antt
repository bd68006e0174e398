use Rattle.std.proofs.Common.{◌≡◌, subst, cond, Some, Ordering}
use Rattle.std.specs.BTreeMap.{get, is_at}
use Rattle.al_tail.specs.declared.latest.Mark.{Mark}
use Rattle.al_tail.proofs.Marks.{derived_order}
use Rattle.al_tail.proofs.latest.Latest.swap.Goals as goal

pub returns-in-Ok-clause-ok : goal.returns-in-Ok-clause-ok
returns-in-Ok-clause-ok c =
    subst (λ (R : Mark → Mark → Ordering). (q : Mark) → get R c.insert.new.self q ≡ cond (is_at (R c.args.mark.now) q) (Some c.args.last) (get R c.args.self.now.rounds q)) derived_order c.in-Ok.ensures.updates.0
