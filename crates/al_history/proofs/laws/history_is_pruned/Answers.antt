use Rattle.al_history.proofs.Pruned.{pruned}
use Rattle.al_history.proofs.laws.history_is_pruned.Goals as goal

pub returns : goal.returns
returns c = pruned
