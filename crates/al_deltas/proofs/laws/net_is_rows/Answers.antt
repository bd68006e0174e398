use Rattle.al_deltas.proofs.Nets.{net_is}
use Rattle.al_deltas.proofs.laws.net_is_rows.Goals as goal

pub returns : goal.returns
returns c = net_is
