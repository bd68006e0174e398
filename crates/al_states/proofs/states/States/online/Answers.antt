use Rattle.std.proofs.Common.{ap₂}
use Rattle.std.proofs.lemmas.Result.{err_from_is_err_and}
use Rattle.al_states.specs.declared.looking.StakeAnswer.{StakeAnswer}
use Rattle.al_states.specs.Keeping.{held}
use Rattle.al_states.specs.Looking.{ShowsStake}
use Rattle.al_states.proofs.LookLemmas.{refused_back, remembered_from, remembered_top, shown_back, stake_is}
use Rattle.al_states.proofs.states.States.online.Goals as goal

pub at-requires-clause-from : goal.at-requires-clause-from
at-requires-clause-from c = remembered_from c.args.self.now c.in_ok-round.round c.requires

pub at-requires-clause-top : goal.at-requires-clause-top
at-requires-clause-top c = remembered_top c.args.self.now c.in_ok-round.round c.requires c.in_ok-round.ensures.1

pub returns : goal.returns
returns c =
    let s = c.args.self.now in
    let h = held s in
    let n = c.in_ok-round.round in
    let who = c.args.who.now in
    let a : StakeAnswer = record { front = c.front.result; round = n; stake = c.at.result } in
    shown_back h c.args.round (ShowsStake h who) n a c.in_ok-round.ensures
    (ap₂ (λ f stake. let x : StakeAnswer = record { front = f; round = n; stake = stake } in x) c.front.ensures.front (stake_is s n who c.at.result c.requires c.in_ok-round.ensures.1 c.at.ensures))

pub returns-in_err-round : goal.returns-in_err-round
returns-in_err-round c =
    let h = held c.args.self.now in
    let p = err_from_is_err_and c.from_residual.result c.from_residual.ensures.1 in
    rw (p.1, p.2) (refused_back h c.args.round (ShowsStake h c.args.who.now) c.in_err-round.field-0.0 c.in_err-round.ensures)
