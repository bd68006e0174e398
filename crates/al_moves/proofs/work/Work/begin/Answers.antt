use Rattle.al_overlay.proofs.Overlays.{IsWork-begin}
use Rattle.al_moves.proofs.work.Work.begin.Goals as goal

pub invariant_of-self : goal.invariant_of-self
invariant_of-self g c = (IsWork-begin _ c.self.invariant.0 c.clear.ensures.items, c.self.invariant.1)
