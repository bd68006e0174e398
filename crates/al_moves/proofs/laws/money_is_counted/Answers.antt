use Rattle.al_moves.proofs.Counts as counts
use Rattle.al_moves.proofs.laws.money_is_counted.Goals as goal

pub returns : goal.returns
returns c = counts.money_is_counted
