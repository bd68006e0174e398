use Rattle.al_moves.proofs.Keyed as keyed
use Rattle.al_moves.proofs.laws.keys_are_fair.Goals as goal

pub returns : goal.returns
returns c = keyed.keys_are_fair
