use Rattle.std.proofs.Common.{refl}
use Rattle.al_states.specs.Keeping.{held}
use Rattle.al_session.proofs.EndLemmas.{ended_short, ended_stopped, ended_written}
use Rattle.al_session.proofs.FileLemmas.{mute_ends}
use Rattle.al_session.proofs.ServeLemmas.{wrote_none}
use Rattle.al_session.proofs.TakingLemmas.{left_none}
use Rattle.al_session.proofs.catching.written.Goals as goal

pub returns-in-Err-clause-ended : goal.returns-in-Err-clause-ended
returns-in-Err-clause-ended g c = λ made left count from.
    ended_stopped c.args.round made c.args.bytes.now (record { left = left; written = g.T.Sink.written c.args.sink.now; files = g.F.Folder.files c.args.folder.now; source_faults = count; sink_faults = g.T.Sink.faults c.args.sink.now; folder_faults = g.F.Folder.faults c.args.folder.now }) (record { left = left; written = g.T.Sink.written c.stopped.new.sink; files = g.F.Folder.files c.work.new.folder; source_faults = count; sink_faults = g.T.Sink.faults c.stopped.new.sink; folder_faults = g.F.Folder.faults c.work.new.folder }) (held c.args.states.now) (held c.work.new.states) c.front.result c.in-Err.end c.stopped.result.0 from c.front.ensures.front c.in-Err.ensures.works (record { taken = left_none left; kept = refl }) c.stopped.ensures.tells c.in-Err.ensures.kept

pub returns-in-Ok-label_line-clause-ended : goal.returns-in-Ok-label_line-clause-ended
returns-in-Ok-label_line-clause-ended g c = λ made left count from.
    ended_written c.args.round made c.args.bytes.now (record { left = left; written = g.T.Sink.written c.args.sink.now; files = g.F.Folder.files c.args.folder.now; source_faults = count; sink_faults = g.T.Sink.faults c.args.sink.now; folder_faults = g.F.Folder.faults c.args.folder.now }) (record { left = left; written = g.T.Sink.written c.send.new.sink; files = g.F.Folder.files c.work.new.folder; source_faults = count; sink_faults = g.T.Sink.faults c.send.new.sink; folder_faults = g.F.Folder.faults c.work.new.folder }) (held c.args.states.now) (held c.work.new.states) c.in-Ok.label c.in-Ok-label_line.line.items c.deref.result.now c.send.result.0 from c.in-Ok.ensures.works c.in-Ok.ensures.whole c.in-Ok-label_line.ensures c.deref.ensures.value (record { taken = left_none left; kept = refl }) c.send.ensures.sends c.in-Ok.ensures.kept

pub returns-in-Err-label_line-clause-ended : goal.returns-in-Err-label_line-clause-ended
returns-in-Err-label_line-clause-ended g c = λ made left count from.
    ended_short c.args.round made c.args.bytes.now (record { left = left; written = g.T.Sink.written c.args.sink.now; files = g.F.Folder.files c.args.folder.now; source_faults = count; sink_faults = g.T.Sink.faults c.args.sink.now; folder_faults = g.F.Folder.faults c.args.folder.now }) (record { left = left; written = g.T.Sink.written c.args.sink.now; files = g.F.Folder.files c.work.new.folder; source_faults = count; sink_faults = g.T.Sink.faults c.args.sink.now; folder_faults = g.F.Folder.faults c.work.new.folder }) 7 (mute_ends (record { left = left; written = g.T.Sink.written c.args.sink.now; files = g.F.Folder.files c.args.folder.now; source_faults = count; sink_faults = g.T.Sink.faults c.args.sink.now; folder_faults = g.F.Folder.faults c.args.folder.now }) (record { left = left; written = g.T.Sink.written c.args.sink.now; files = g.F.Folder.files c.work.new.folder; source_faults = count; sink_faults = g.T.Sink.faults c.args.sink.now; folder_faults = g.F.Folder.faults c.work.new.folder }) 7 (record { taken = left_none left; kept = refl }) (refl, wrote_none (g.T.Sink.written c.args.sink.now), refl)) c.in-Ok.ensures.kept
