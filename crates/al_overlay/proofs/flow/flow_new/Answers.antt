use Rattle.al_rows.specs.Finite.{overlaid}
use Rattle.al_overlay.specs.Held.{nows}
use Rattle.al_overlay.proofs.Flows.{new_gives, new_refused}
use Rattle.al_overlay.proofs.flow.flow_new.Goals as goal

pub returns-in-Ok-set_over-clause-gives : goal.returns-in-Ok-set_over-clause-gives
returns-in-Ok-set_over-clause-gives g c = λ m none is.
    new_gives c.args.level c.args.who.now c.args.flow c.args.rows.now.entries m (overlaid (nows c.set_over.new.rows.entries) m) c.args.old c.in-Ok.row none is c.in-Ok.ensures (c.in-Ok-set_over.ensures.now m)

pub returns-in-Err-clause-gives : goal.returns-in-Err-clause-gives
returns-in-Err-clause-gives g c = λ m none is.
    new_refused c.args.level c.args.who.now c.args.flow c.args.rows.now.entries m c.args.old c.in-Err.rule none is c.in-Err.ensures
