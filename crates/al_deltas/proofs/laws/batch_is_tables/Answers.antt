use Rattle.al_deltas.proofs.Nets.{batch_leads}
use Rattle.al_deltas.proofs.laws.batch_is_tables.Goals as goal

pub returns : goal.returns
returns c = batch_leads
