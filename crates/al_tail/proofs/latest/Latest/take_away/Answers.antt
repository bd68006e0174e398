use Rattle.std.proofs.Common.{◌≡◌, ℕ, subst, cond, None, Option, Ordering}
use Rattle.std.specs.BTreeMap.{get, is_at}
use Rattle.al_tail.specs.declared.latest.Mark.{Mark}
use Rattle.al_tail.proofs.Marks.{derived_order}
use Rattle.al_tail.proofs.latest.Latest.take_away.Goals as goal

pub returns : goal.returns
returns c =
    subst (λ (R : Mark → Mark → Ordering). (q : Mark) → get R c.remove.new.self q ≡ cond {A = Option ℕ} (is_at (R c.args.mark.now) q) None (get R c.args.self.now.rounds q)) derived_order c.remove.ensures.updates.0
