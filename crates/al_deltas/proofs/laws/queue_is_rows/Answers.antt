use Rattle.al_deltas.proofs.Queues.{rows_are}
use Rattle.al_deltas.proofs.laws.queue_is_rows.Goals as goal

pub returns : goal.returns
returns c = rows_are
