use Rattle.al_states.proofs.MakeLemmas.{due_is}
use Rattle.al_states.proofs.states.States.next_due.Goals as goal

pub returns : goal.returns
returns c t at = due_is c.args.self.now c.requires.states c.units-units.result c.pool_balance.result c.next.result t c.units-units.ensures c.pool_balance.ensures c.next.ensures at
