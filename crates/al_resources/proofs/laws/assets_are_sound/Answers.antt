use Rattle.al_resources.proofs.Soundness as sound
use Rattle.al_resources.proofs.laws.assets_are_sound.Goals as goal

pub returns : goal.returns
returns c = sound.assets_are_sound
