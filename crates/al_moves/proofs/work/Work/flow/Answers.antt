use Rattle.std.proofs.Common.{refl}
use Rattle.al_overlay.specs.Flows.{after_flow}
use Rattle.al_overlay.proofs.Creators.{account_noted}
use Rattle.al_overlay.proofs.Steps.{does-given}
use Rattle.al_moves.proofs.work.Work.flow.Goals as goal

pub flow_row-requires : goal.flow_row-requires
flow_row-requires g c = c.self.invariant.0.ranged

pub invariant_of-self : goal.invariant_of-self
invariant_of-self g c = (
  c.flow_row.ensures.work c.self.invariant.0,
  account_noted c.self.inside.rows.entries c.flow_row.new.rows.entries c.args.who.now c.self.inside.creators c.flow_row.ensures.others c.self.invariant.1,
)

pub returns : goal.returns
returns g c =
    does-given g.V.RowView.tells (λ w. after_flow w.level c.args.who.now c.args.flow w.now) _ _ _ c.flow_row.result c.self.view_is refl refl refl c.flow_row.ensures.later c.flow_row.ensures.lender c.flow_row.ensures.same c.flow_row.ensures.gives (λ t. c.flow_row.ensures.start t c.self.invariant.0) c.flow_row.ensures.cause
