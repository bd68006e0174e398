use Rattle.al_deltas.proofs.Nets.{stored_if}
use Rattle.al_deltas.proofs.batch.rows_of.Goals as goal

pub returns-clause-stored : goal.returns-clause-stored
returns-clause-stored c = stored_if c.as_rows.result c.args.deltas.now c.in_ok-net.net c.requires.kept c.requires.low c.in_ok-net.ensures.ordered c.in_ok-net.ensures.net c.as_rows.ensures
