use Rattle.std.proofs.Common.{◌≡◌, ◌+◌, ◌<◌, arith, length, subst}
use Rattle.std.proofs.lemmas.Result.{err_from_is_err_and}
use Rattle.al_states.specs.Keeping.{held}
use Rattle.al_states.proofs.LookLemmas.{refused_sooner}
use Rattle.al_states.proofs.states.States.round_back.Goals as goal

pub returns : goal.returns
returns c =
    let is = c.in_ok-round.ensures in
    let front : c.front-front.result ≡ length (held c.args.self.now).blocks = c.front-front.ensures.front in
    (is.0, is.1, omega (arith, c.if-round-front.false, front))

pub returns-then-round-front : goal.returns-then-round-front
returns-then-round-front c =
    let front : c.front-front.result ≡ length (held c.args.self.now).blocks = c.front-front.ensures.front in
    (front, subst (λ n. n + 320 < length (held c.args.self.now).blocks) c.in_ok-round.ensures.0 (omega (arith, c.if-round-front.true, front)))

pub returns-in_err-round : goal.returns-in_err-round
returns-in_err-round c =
    let p = err_from_is_err_and c.from_residual.result c.from_residual.ensures.1 in
    rw (p.1, p.2) (refused_sooner (held c.args.self.now) c.args.round c.in_err-round.field-0.0 c.in_err-round.ensures)
