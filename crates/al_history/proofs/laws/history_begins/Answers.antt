use Rattle.al_history.proofs.Grown.{begins}
use Rattle.al_history.proofs.laws.history_begins.Goals as goal

pub returns : goal.returns
returns c = begins
