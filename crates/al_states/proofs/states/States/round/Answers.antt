use Rattle.std.proofs.Common.{◌≡◌, ◌<◌, ◌∙◌, arith, ap, length, subst, unwrap_or}
use Rattle.al_states.specs.Keeping.{held}
use Rattle.al_states.proofs.states.States.round.Goals as goal

pub returns : goal.returns
returns c =
    let front : c.front-front.result ≡ length (held c.args.self.now).blocks = c.front-front.ensures.front in
    (c.unwrap_or-round.ensures ∙ ap (unwrap_or c.args.round) front, omega (arith, c.if-front-round.false, front))

pub returns-then-front-round : goal.returns-then-front-round
returns-then-front-round c =
    let front : c.front-front.result ≡ length (held c.args.self.now).blocks = c.front-front.ensures.front in
    (front, subst (λ m. m < unwrap_or c.args.round m) front (subst (λ m. c.front-front.result < m) c.unwrap_or-round.ensures c.if-front-round.true))
