use Rattle.std.proofs.Common.{rules}
use Rattle.std.proofs.lemmas.Result.{err_from_is_err_and}
use Rattle.al_http.specs.Requests.{IsUnfinished}
use Rattle.al_http.proofs.RestLemmas.{partial_unfinished}
use Rattle.al_session.proofs.TakingLemmas.{head_stops}
use Rattle.al_session.proofs.inbox.Inbox.next_head.Goals as goal

pub returns-in_err-fill-in-Partial-clause-bytes : goal.returns-in_err-fill-in-Partial-clause-bytes
returns-in_err-fill-in-Partial-clause-bytes g c =
    let p = err_from_is_err_and c.from_residual-in_err-fill-in-Partial.result c.from_residual-in_err-fill-in-Partial.ensures.1 in
    let part : IsUnfinished c.loop-head.self = partial_unfinished c.loop-head.self (search rules) (search rules) (search rules) in
    rw (p.1, p.2) (head_stops _ c.loop-head.self _ _ (g.S.Source.left c.loop-head.source) _ c.in_err-fill-in-Partial.field-0.0 c.loop-head.invariant.grown part c.in_err-fill-in-Partial.ensures.bytes)
