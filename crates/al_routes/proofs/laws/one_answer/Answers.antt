use Rattle.al_routes.proofs.OneLemmas.{one_answer}
use Rattle.al_routes.proofs.laws.one_answer.Goals as goal

pub returns : goal.returns
returns c = λ method target r s x y. one_answer method target r s x y
