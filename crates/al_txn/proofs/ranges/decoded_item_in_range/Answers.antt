use Rattle.al_txn.proofs.InRange.{effects_in_range, read_in_range}
use Rattle.al_txn.proofs.ranges.decoded_item_in_range.Goals as goal

pub returns-clause-records : goal.returns-clause-records
returns-clause-records c = λ i es r. effects_in_range i es r

pub returns-clause-decoded : goal.returns-clause-decoded
returns-clause-decoded c = λ v i r. read_in_range v i r
