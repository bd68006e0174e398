use Rattle.al_generated.proofs.TextLemmas.{money_is}
use Rattle.al_states.specs.Keeping.{held}
use Rattle.al_generated.proofs.summary.money.Goals as goal

pub returns-in-Ok : goal.returns-in-Ok
returns-in-Ok c t at = money_is (held c.args.states.now) c.in-Ok.supply t (c.in-Ok.ensures.1) at
