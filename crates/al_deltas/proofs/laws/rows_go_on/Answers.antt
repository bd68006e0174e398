use Rattle.al_deltas.proofs.Queues.{goes_on}
use Rattle.al_deltas.proofs.laws.rows_go_on.Goals as goal

pub returns : goal.returns
returns c = goes_on
