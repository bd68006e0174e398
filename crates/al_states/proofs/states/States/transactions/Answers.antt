use Rattle.std.proofs.Common.{ap}
use Rattle.al_eval.specs.State.{State}
use Rattle.al_states.proofs.MakeLemmas.{it_is_last}
use Rattle.al_states.proofs.states.States.transactions.Goals as goal

pub returns : goal.returns
returns c t at = ap (λ (s : State). s.header.counter) (it_is_last c.args.self.now c.requires t at)
