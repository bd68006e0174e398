use Rattle.al_states.proofs.CatchLemmas.{totals_here}
use Rattle.al_states.proofs.states.States.totals.Goals as goal

pub returns : goal.returns
returns c t at = totals_here c.args.self.now c.requires t at
