use Rattle.std.proofs.Common.{subst, sym, Result}
use Rattle.al_routes.specs.declared.request.FormFault.{FormFault}
use Rattle.al_routes.specs.declared.request.Request.{Request}
use Rattle.al_states.specs.Keeping.{held}
use Rattle.al_states.specs.Replies.{IsAnswered}
use Rattle.al_states.proofs.states.States.answer.Goals as goal

pub returns-in-Ok : goal.returns-in-Ok
returns-in-Ok c = record {
  states = c.requires.states;
  sound = c.looked.ensures.sound;
  answered = subst (λ (asked : Result Request FormFault). IsAnswered (held c.args.self.now) (held c.args.self.now) asked c.args.body.now c.looked.result) (sym c.in-Ok.is) (c.looked.ensures.answered c.args.body.now);
}

pub returns-in-Err-clause-answered : goal.returns-in-Err-clause-answered
returns-in-Err-clause-answered c =
    let h = held c.args.self.now in
    subst (λ (asked : Result Request FormFault). IsAnswered h h asked c.args.body.now c.faulted.result) (sym c.in-Err.is) (c.faulted.ensures.answered c.args.body.now)
