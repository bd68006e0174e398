use Rattle.al_resources.proofs.Calls as sound
use Rattle.al_resources.proofs.laws.calls_are_sound.Goals as goal

pub returns : goal.returns
returns c = sound.calls_are_sound
