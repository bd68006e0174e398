use Rattle.al_bodies.proofs.InRange.{in_range}
use Rattle.al_bodies.proofs.ranges.decoded_in_range.Goals as goal

pub returns : goal.returns
returns c = λ x es r. in_range x es r
