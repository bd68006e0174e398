use Rattle.std.proofs.Common.{Ok}
use Rattle.al_catch.proofs.TipLemmas.{no_other, read_hash}
use Rattle.al_catch.proofs.tip.hash_of.Goals as goal

pub returns-in-Ok : goal.returns-in-Ok
returns-in-Ok c = λ b is. read_hash c.in-Ok.block b c.header_hash.result (c.in-Ok.ensures.only (Ok b) is) c.header_hash.ensures

pub returns-in-Err : goal.returns-in-Err
returns-in-Err c = λ b is. no_other b c.in-Err.fault c.no_hash.result (c.in-Err.ensures.only (Ok b) is) c.no_hash.ensures
