use Rattle.std.proofs.Common.{subst}
use Rattle.al_routes.specs.Asks.{AsksCirculation}
use Rattle.al_routes.proofs.kinds.asked.Goals as goal

pub returns-in-Circulation : goal.returns-in-Circulation
returns-in-Circulation c = rw c.in-Circulation.is (subst (λ q. AsksCirculation q c.circulation.result) c.requires c.circulation.ensures)
