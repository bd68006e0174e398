use Rattle.std.proofs.Common.{sym}
use Rattle.al_bodies.proofs.Straight.{inner_some}
use Rattle.al_bodies.proofs.inner.InnerInnerRecord.is_empty.Goals as goal

pub returns : goal.returns
returns c = sym (inner_some c.args.self.now)
