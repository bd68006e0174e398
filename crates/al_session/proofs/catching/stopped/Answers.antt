use Rattle.std.proofs.Common.{refl, inl, sym, subst}
use Rattle.al_session.specs.Telling.{TellsEnd}
use Rattle.al_session.specs.Outside.{Says}
use Rattle.al_session.proofs.catching.stopped.Goals as goal

pub returns-in-Behind-clause-tells : goal.returns-in-Behind-clause-tells
returns-in-Behind-clause-tells g c =
    let before = g.T.Sink.written c.args.sink.now in
    let now = g.T.Sink.written c.say.new.sink in
    let f = g.T.Sink.faults c.args.sink.now in
    let k = g.T.Sink.faults c.say.new.sink in
    subst (λ e. TellsEnd c.args.round c.args.front e before now f k 6) (sym c.in-Behind.is) (inl (refl, subst (λ line. Says line before now f k) c.catchpoint_line.ensures c.say.ensures.says))
