use Rattle.std.proofs.Common.{refl}
use Rattle.al_states.proofs.LookLemmas.{hash_is}
use Rattle.al_states.proofs.states.States.status.Goals as goal

pub returns : goal.returns
returns c = record { front = c.front.ensures.front; floor = refl; hash = hash_is c.args.self.now c.requires }
