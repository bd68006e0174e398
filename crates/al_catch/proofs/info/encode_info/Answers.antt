use Rattle.al_catch.specs.Records.{info}
use Rattle.al_catch.proofs.Meaning.{back_from}
use Rattle.al_catch.proofs.info.encode_info.Goals as goal

pub returns-clause-back : goal.returns-clause-back
returns-clause-back c = λ input m. back_from info c.encode_record.result input c.args.i.now _ _ m c.encode_record.ensures.bytes
