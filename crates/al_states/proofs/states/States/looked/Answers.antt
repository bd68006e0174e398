use Rattle.std.proofs.Common.{inl, inr, Ok}
use Rattle.al_states.specs.Keeping.{held}
use Rattle.al_states.proofs.ToldLemmas.{answered_same}
use Rattle.al_states.proofs.states.States.looked.Goals as goal

pub returns-in-Ok-clause-answered : goal.returns-in-Ok-clause-answered
returns-in-Ok-clause-answered c = λ body. answered_same (held c.args.self.now) (Ok c.args.ask.now) body c.in-Ok.answer c.told.result c.told.ensures (inl (c.in-Ok.ensures.1 body))

pub returns-in-Err-clause-answered : goal.returns-in-Err-clause-answered
returns-in-Err-clause-answered c = λ body. answered_same (held c.args.self.now) (Ok c.args.ask.now) body c.memory.result c.told-in-Err.result c.told-in-Err.ensures (inr c.memory.ensures)
