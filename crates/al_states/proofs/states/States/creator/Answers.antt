use Rattle.std.proofs.Common.{ap₂}
use Rattle.std.proofs.lemmas.Result.{err_from_is_err_and}
use Rattle.al_states.specs.declared.looking.CreatorAnswer.{CreatorAnswer}
use Rattle.al_states.specs.Keeping.{held}
use Rattle.al_states.specs.Looking.{ShowsCreator}
use Rattle.al_states.proofs.LookLemmas.{refused_at, shown_at}
use Rattle.al_states.proofs.states.States.creator.Goals as goal

pub returns-in-Ok : goal.returns-in-Ok
returns-in-Ok c =
    let h = held c.args.self.now in
    let n = c.in_ok-round.round in
    let a : CreatorAnswer = record { front = c.front.result; round = n; address = c.in-Ok.address } in
    shown_at h c.args.round (ShowsCreator h c.args.id) n a c.in_ok-round.ensures (ap₂ (λ f who. let x : CreatorAnswer = record { front = f; round = n; address = who } in x) c.front.ensures.front c.in-Ok.ensures)

pub returns-in_err-round : goal.returns-in_err-round
returns-in_err-round c =
    let h = held c.args.self.now in
    let p = err_from_is_err_and c.from_residual.result c.from_residual.ensures.1 in
    rw (p.1, p.2) (refused_at h c.args.round (ShowsCreator h c.args.id) c.in_err-round.field-0.0 c.in_err-round.ensures)
