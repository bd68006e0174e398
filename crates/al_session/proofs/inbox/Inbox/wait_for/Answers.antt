use Rattle.std.proofs.Common.{arith}
use Rattle.std.proofs.lemmas.Result.{err_from_is_err_and}
use Rattle.al_session.proofs.TakingLemmas.{wait_stops}
use Rattle.al_session.proofs.inbox.Inbox.wait_for.Goals as goal

pub returns-in_err-fill-clause-bytes : goal.returns-in_err-fill-clause-bytes
returns-in_err-fill-clause-bytes g c =
    let p = err_from_is_err_and c.from_residual.result c.from_residual.ensures.1 in
    rw (p.1, p.2) (wait_stops _ c.loop-self.self _ _ (g.S.Source.left c.loop-self.source) _ c.args.need c.in_err-fill.field-0.0 c.loop-self.invariant.grown (omega arith) c.in_err-fill.ensures.bytes)
