use Rattle.al_generator.proofs.TurnLemmas.{turn_made}
use Rattle.al_generator.proofs.progress.Progress.turn.Goals as goal

pub returns-clause-made : goal.returns-clause-made
returns-clause-made c = turn_made c.act.result c.args.out.now.items c.act.new.out.items c.args.self.now c.hand-hand.new.self c.hand-hand.result c.hand-hand.ensures.state c.hand-hand.ensures.hand c.act.ensures.made
