use Rattle.al_moves.proofs.Monies as monies
use Rattle.al_moves.proofs.laws.moves_are_fair.Goals as goal

pub returns : goal.returns
returns c = monies.moves_are_fair
