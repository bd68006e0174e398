use Rattle.std.proofs.Common.{sym}
use Rattle.std.proofs.lemmas.Result.{err_from_is_err_and}
use Rattle.al_session.proofs.TakingLemmas.{head_stopped, size_refused, body_came, body_stops, need_fits}
use Rattle.al_session.proofs.inbox.Inbox.next.Goals as goal

pub returns-in_err-head-clause-bytes : goal.returns-in_err-head-clause-bytes
returns-in_err-head-clause-bytes g c =
    let p = err_from_is_err_and c.from_residual.result c.from_residual.ensures.1 in
    rw (p.1, p.2) (head_stopped _ c.next_head.new.self _ (g.S.Source.left c.next_head.new.source) c.in_err-head.field-0.0 c.in_err-head.ensures.bytes)

pub returns-in-Err-clause-bytes : goal.returns-in-Err-clause-bytes
returns-in-Err-clause-bytes g c = size_refused _ c.next_head.new.self _ (g.S.Source.left c.next_head.new.source) c.in_ok-head.head c.in-Err.fault c.in_ok-head.ensures.bytes (sym c.in-Err.ensures)

pub returns-in_err-wait_for-clause-bytes : goal.returns-in_err-wait_for-clause-bytes
returns-in_err-wait_for-clause-bytes g c =
    let p = err_from_is_err_and c.from_residual-in_err-wait_for.result c.from_residual-in_err-wait_for.ensures.1 in
    rw (p.1, p.2) (body_stops _ c.next_head.new.self _ _ (g.S.Source.left c.next_head.new.source) _ c.in_ok-head.head c.in-Ok.size c.in_err-wait_for.field-0.0 c.in_ok-head.ensures.bytes (sym c.in-Ok.ensures) c.in_err-wait_for.ensures.bytes)

pub returns-clause-bytes : goal.returns-clause-bytes
returns-clause-bytes g c = body_came _ c.next_head.new.self _ _ (g.S.Source.left c.next_head.new.source) _ c.in_ok-head.head c.request.result c.in-Ok.size c.in_ok-head.ensures.bytes c.request.ensures (sym c.in-Ok.ensures) c.in_ok-wait_for.ensures.bytes

pub wait_for-requires : goal.wait_for-requires
wait_for-requires g c = need_fits _ c.next_head.new.self _ (g.S.Source.left c.next_head.new.source) c.in_ok-head.head c.in-Ok.size c.in_ok-head.ensures.bytes (sym c.in-Ok.ensures)
