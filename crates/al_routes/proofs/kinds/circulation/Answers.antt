use Rattle.std.proofs.Common.{inl, refl}
use Rattle.al_routes.proofs.kinds.circulation.Goals as goal

pub returns : goal.returns
returns c = inl ((c.in-Some.round, c.in-Some.vote), c.in-Some.ensures, refl)
