use Rattle.al_resources.proofs.Payments as sound
use Rattle.al_resources.proofs.laws.payments_are_sound.Goals as goal

pub returns : goal.returns
returns c = sound.payments_are_sound
