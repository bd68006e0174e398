use Rattle.std.proofs.Common.{refl}
use Rattle.al_session.proofs.RunLemmas.{summed, unmade}
use Rattle.al_session.proofs.TakingLemmas.{left_none}
use Rattle.al_session.proofs.generation.generation.Goals as goal

pub returns-in-Ok-clause-generates : goal.returns-in-Ok-clause-generates
returns-in-Ok-clause-generates g c = λ left count.
    let made = c.in-Ok.ensures.generated in
    summed c.args.number c.args.blocks (record { left = left; written = g.T.Sink.written c.args.sink.now; files = g.F.Folder.files c.args.folder.now; source_faults = count; sink_faults = g.T.Sink.faults c.args.sink.now; folder_faults = g.F.Folder.faults c.args.folder.now }) (record { left = left; written = g.T.Sink.written c.send.new.sink; files = g.F.Folder.files c.generate.new.folder; source_faults = count; sink_faults = g.T.Sink.faults c.send.new.sink; folder_faults = g.F.Folder.faults c.generate.new.folder }) c.send.result.0 made.0 made.2.0 c.in-Ok.text.items c.deref.result.now made.1 made.2.1 made.2.2 c.deref.ensures.value (record { taken = left_none left; kept = refl }) c.send.ensures.sends c.in-Ok.ensures.kept

pub returns-in-Err-clause-generates : goal.returns-in-Err-clause-generates
returns-in-Err-clause-generates g c = λ left count.
    unmade (Unit {0}) c.args.number c.args.blocks (record { left = left; written = g.T.Sink.written c.args.sink.now; files = g.F.Folder.files c.args.folder.now; source_faults = count; sink_faults = g.T.Sink.faults c.args.sink.now; folder_faults = g.F.Folder.faults c.args.folder.now }) (record { left = left; written = g.T.Sink.written c.refused.new.sink; files = g.F.Folder.files c.generate.new.folder; source_faults = count; sink_faults = g.T.Sink.faults c.refused.new.sink; folder_faults = g.F.Folder.faults c.generate.new.folder }) c.refused.result.0 c.in-Err.refusal c.in-Err.ensures.cause (record { taken = left_none left; kept = refl }) c.refused.ensures.tells c.in-Err.ensures.kept
