use Rattle.al_block.proofs.Within.{is_within}
use Rattle.al_block.proofs.laws.decoded_is_within.Goals as goal

pub returns : goal.returns
returns c = λ bytes b is. is_within bytes b is
