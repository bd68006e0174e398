use Rattle.al_catch.specs.Records.{chunk}
use Rattle.al_catch.proofs.Meaning.{back_from}
use Rattle.al_catch.proofs.chunk.encode_chunk.Goals as goal

pub returns-clause-back : goal.returns-clause-back
returns-clause-back c = λ input m. back_from chunk c.encode_record.result input c.args.c.now _ _ m c.encode_record.ensures.bytes
