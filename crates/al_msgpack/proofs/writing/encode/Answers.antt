use Rattle.al_msgpack.proofs.Encoded.{appended}
use Rattle.al_msgpack.proofs.writing.encode.Goals as goal

pub returns-in-Ok-clause-spelling : goal.returns-in-Ok-clause-spelling
returns-in-Ok-clause-spelling c = appended c.args.v.now c.args.out.now.items c.write.new.out.items c.requires c.in-Ok.ensures.bytes
