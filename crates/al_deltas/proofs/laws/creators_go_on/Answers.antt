use Rattle.al_deltas.proofs.Nets.{creators_from}
use Rattle.al_deltas.proofs.laws.creators_go_on.Goals as goal

pub returns : goal.returns
returns c = creators_from
