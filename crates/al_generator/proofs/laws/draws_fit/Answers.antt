use Rattle.al_generator.proofs.RangeLemmas.{draws}
use Rattle.al_generator.proofs.laws.draws_fit.Goals as goal

pub returns : goal.returns
returns c = draws
