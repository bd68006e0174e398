use Rattle.al_eval.proofs.Firsts as firsts
use Rattle.al_eval.proofs.laws.start_is_sound.Goals as goal

pub returns : goal.returns
returns c = firsts.start_is_sound
