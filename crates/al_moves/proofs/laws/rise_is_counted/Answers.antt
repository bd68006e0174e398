use Rattle.al_moves.proofs.Counts as counts
use Rattle.al_moves.proofs.laws.rise_is_counted.Goals as goal

pub returns : goal.returns
returns c = counts.counts_raised
