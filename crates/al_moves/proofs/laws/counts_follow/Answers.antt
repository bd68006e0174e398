use Rattle.al_moves.proofs.Follows as follows
use Rattle.al_moves.proofs.laws.counts_follow.Goals as goal

pub returns : goal.returns
returns c = follows.counts_follow
