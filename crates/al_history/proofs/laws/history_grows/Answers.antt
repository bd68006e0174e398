use Rattle.al_history.proofs.Grown.{grows}
use Rattle.al_history.proofs.laws.history_grows.Goals as goal

pub returns : goal.returns
returns c = grows
