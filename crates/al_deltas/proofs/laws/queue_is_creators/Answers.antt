use Rattle.al_deltas.proofs.Nets.{creators_are}
use Rattle.al_deltas.proofs.laws.queue_is_creators.Goals as goal

pub returns : goal.returns
returns c = creators_are
