use Rattle.al_routes.proofs.NameLemmas.{long_name}
use Rattle.std.proofs.Common.{arith}
use Rattle.al_routes.proofs.values.box_name.Goals as goal

pub returns-then-len-gt64 : goal.returns-then-len-gt64
returns-then-len-gt64 c = long_name c.args.text.now (omega (arith, c.if-len-gt64.true))
