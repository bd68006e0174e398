use Rattle.al_bodies.proofs.Written.{back_from}
use Rattle.al_txn.proofs.id.encode_txn.Goals as goal

pub returns-clause-back : goal.returns-clause-back
returns-clause-back c = λ input m. back_from c.encode_record.result input _ _ _ m c.encode_record.ensures.bytes
