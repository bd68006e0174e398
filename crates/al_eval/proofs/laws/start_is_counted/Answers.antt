use Rattle.al_eval.proofs.Counted as counted
use Rattle.al_eval.proofs.laws.start_is_counted.Goals as goal

pub returns : goal.returns
returns c = counted.start_counted
