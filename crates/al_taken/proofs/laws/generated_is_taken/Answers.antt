use Rattle.al_taken.proofs.Law as law
use Rattle.al_taken.proofs.laws.generated_is_taken.Goals as goal

pub returns : goal.returns
returns c = law.generated_is_taken
