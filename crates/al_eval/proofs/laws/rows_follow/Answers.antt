use Rattle.al_eval.proofs.Nexts as nexts
use Rattle.al_eval.proofs.laws.rows_follow.Goals as goal

pub returns : goal.returns
returns c = nexts.rows_follow
