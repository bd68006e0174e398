use Rattle.std.proofs.Common.{◌∙◌, ◌≤◌, ◌+◌, ap₂, subst}
use Rattle.std.proofs.lemmas.Result.{err_from_is_err_and}
use Rattle.al_ledger.specs.declared.looking.StakeAnswer.{StakeAnswer}
use Rattle.al_ledger.specs.Looking.{ShowsStake}
use Rattle.al_ledger.specs.Window.{front_of}
use Rattle.al_ledger.proofs.Looks.{front_is, refused_back, shown_back, stake_is}
use Rattle.al_ledger.proofs.recent.Recent.online.Goals as goal

pub returns : goal.returns
returns g c = λ w tables kept k.
    let r = c.args.self.now in
    let n = c.in_ok-round.round in
    let who = c.args.who.now in
    let front = front_is w tables kept r k in
    let high : n ≤ front_of w = subst (λ f. n ≤ f) front c.in_ok-round.ensures.1 in
    let low : front_of w ≤ n + 320 = subst (λ f. f ≤ n + 320) front c.in_ok-round.ensures.2 in
    let a : StakeAnswer = record { front = c.front.result; round = n; stake = c.at.result } in
    shown_back (Unit {0}) w _ c.args.round (ShowsStake w who) n a front c.in_ok-round.ensures
    (ap₂ (λ f stake. let x : StakeAnswer = record { front = f; round = n; stake = stake } in x) (c.front.ensures.front ∙ front) (stake_is w tables kept r k n who c.at.result high low c.at.ensures))

pub returns-in_err-round : goal.returns-in_err-round
returns-in_err-round g c = λ w tables kept k.
    let p = err_from_is_err_and c.from_residual.result c.from_residual.ensures.1 in
    rw (p.1, p.2) (refused_back w _ c.args.round (ShowsStake w c.args.who.now) c.in_err-round.field-0.0 (front_is w tables kept c.args.self.now k) c.in_err-round.ensures)
