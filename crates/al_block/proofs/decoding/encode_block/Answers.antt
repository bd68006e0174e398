use Rattle.al_block.proofs.Meaning.{back_from}
use Rattle.al_block.proofs.decoding.encode_block.Goals as goal

pub returns-clause-back : goal.returns-clause-back
returns-clause-back c = λ input m. back_from c.encode_record.result input c.args.b.now _ _ m c.encode_record.ensures.bytes
