use Rattle.al_routes.proofs.QueryLemmas.{both_read, first_read, second_read}
use Rattle.al_routes.proofs.queries.both.Goals as goal

pub returns-in_default : goal.returns-in_default
returns-in_default c = λ x h.
    c.in_default.ensures x.0 (first_read c.args.query.now c.halves.result.0.now x c.halves.ensures.first h)

pub returns-in_default-vote : goal.returns-in_default-vote
returns-in_default-vote c = λ x h.
    c.in_default-vote.ensures x.1 (second_read c.args.query.now c.halves.result.1.now x c.halves.ensures.second h)

pub returns : goal.returns
returns c = both_read c.args.query.now c.halves.result.0.now c.halves.result.1.now c.in-Some.round c.in-Some-vote.vote c.halves.ensures.first c.halves.ensures.second c.in-Some.ensures c.in-Some-vote.ensures
