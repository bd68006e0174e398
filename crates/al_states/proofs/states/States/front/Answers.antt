use Rattle.al_states.proofs.KeepLemmas.{states_valid}
use Rattle.al_states.proofs.SoundLemmas.{states_sound}
use Rattle.al_states.proofs.states.States.front.Goals as goal

pub returns-clause-valid : goal.returns-clause-valid
returns-clause-valid c = states_valid c.args.self.now c.requires

pub returns-clause-sound : goal.returns-clause-sound
returns-clause-sound c = states_sound c.args.self.now c.requires
