use Rattle.al_generator.proofs.Good.{is_genesis}
use Rattle.al_generator.proofs.laws.genesis_is_good.Goals as goal

pub returns : goal.returns
returns c = is_genesis
