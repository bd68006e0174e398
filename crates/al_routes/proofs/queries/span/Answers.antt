use Rattle.std.proofs.Common.{sym, subst}
use Rattle.al_routes.specs.Texts.{IsRound, IsVote}
use Rattle.al_routes.proofs.QueryLemmas.{no_span}
use Rattle.al_routes.proofs.queries.span.Goals as goal

pub returns-in-None : goal.returns-in-None
returns-in-None c =
    no_span c.args.query.now
    (λ r h. c.in_default.ensures r (subst (λ q. IsRound q r) (sym c.as_bytes.ensures.value) h))
    (λ v h. c.in_default-vote.ensures v (subst (λ q. IsVote q v) (sym c.as_bytes-2.ensures.value) h))
    c.in-None.ensures
