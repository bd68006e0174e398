use Rattle.std.proofs.Common.{rules}
use Rattle.std.specs.List.{IsDistinct}
use Rattle.al_online_tests.proofs.tests.none.Goals as goal

pub returns : goal.returns
unfolding IsDistinct
returns c = search rules
