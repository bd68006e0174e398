use Rattle.std.proofs.Common.{arith}
use Rattle.al_asset_tests.proofs.Plain.{plain_counted}
use Rattle.al_asset_tests.proofs.world.are_few.Goals as goal

pub returns-then-items-le1000-clause-few : goal.returns-then-items-le1000-clause-few
returns-then-items-le1000-clause-few c = λ h. omega (arith, c.if-items-le1000.true, plain_counted c.args.items.now (c.are_plain.ensures h))
