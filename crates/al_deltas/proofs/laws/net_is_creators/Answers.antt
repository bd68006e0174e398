use Rattle.al_deltas.proofs.Nets.{net_creators_are}
use Rattle.al_deltas.proofs.laws.net_is_creators.Goals as goal

pub returns : goal.returns
returns c = net_creators_are
