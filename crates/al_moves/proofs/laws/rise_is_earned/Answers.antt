use Rattle.al_moves.proofs.Monies as monies
use Rattle.al_moves.proofs.laws.rise_is_earned.Goals as goal

pub returns : goal.returns
returns c = monies.money_raised
