use Rattle.std.proofs.Common.{refl}
use Rattle.al_overlay.proofs.Steps.{does-row}
use Rattle.al_moves.proofs.work.Work.put.Goals as goal

pub invariant_of-self : goal.invariant_of-self
invariant_of-self g c = (c.set_noted.ensures.work c.self.invariant.0, c.set_noted.ensures.noted c.self.invariant.1)

pub returns-clause-done : goal.returns-clause-done
returns-clause-done g c =
    does-row g.V.RowView.tells _ _ _ c.set_noted.result c.args.key.now c.args.row c.self.view_is refl refl refl c.set_noted.ensures.later c.set_noted.ensures.lender c.set_noted.ensures.same c.set_noted.ensures.now (λ t. c.set_noted.ensures.start t c.self.invariant.0) c.set_noted.ensures.cause c.set_noted.ensures.no_rule
