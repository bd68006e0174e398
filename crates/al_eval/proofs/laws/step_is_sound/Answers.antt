use Rattle.al_eval.proofs.Sounds as sounds
use Rattle.al_eval.proofs.laws.step_is_sound.Goals as goal

pub returns : goal.returns
returns c = sounds.step_is_sound
