use Rattle.std.proofs.Common.{◌∙◌, refl, sym, subst, arith}
use Rattle.al_session.specs.Ending.{IsEnded}
use Rattle.al_session.specs.Outside.{Says}
use Rattle.al_session.proofs.EndLemmas.{both_read, no_round, second_unread, worked}
use Rattle.al_session.proofs.TakingLemmas.{left_none}
use Rattle.al_session.proofs.catching.catching.Goals as goal

pub returns-in-Err-read_input-clause-catches : goal.returns-in-Err-read_input-clause-catches
returns-in-Err-read_input-clause-catches g c = λ left count.
    second_unread c.args.genesis.now c.args.blocks.now c.args.round (record { left = left; written = g.T.Sink.written c.args.sink.now; files = g.F.Folder.files c.args.folder.now; source_faults = count; sink_faults = g.T.Sink.faults c.args.sink.now; folder_faults = g.F.Folder.faults c.args.folder.now }) (record { left = left; written = g.T.Sink.written c.unread-in-Err-read_input.new.sink; files = g.F.Folder.files c.read_input-2.new.folder; source_faults = count; sink_faults = g.T.Sink.faults c.unread-in-Err-read_input.new.sink; folder_faults = g.F.Folder.faults c.read_input-2.new.folder }) (g.F.Folder.files c.read_input.new.folder) (g.F.Folder.faults c.read_input.new.folder) c.in-Err-read_input.fault c.unread-in-Err-read_input.result.0 c.in-Ok.ensures.files c.in-Ok.ensures.later c.in-Err-read_input.ensures.input c.in-Err-read_input.ensures.files (record { taken = left_none left; kept = refl }) c.unread-in-Err-read_input.ensures.tells

pub returns-then-not-is_catchpoint_round-clause-catches : goal.returns-then-not-is_catchpoint_round-clause-catches
returns-then-not-is_catchpoint_round-clause-catches g c = λ left count.
    no_round c.args.genesis.now c.args.blocks.now c.args.round (record { left = left; written = g.T.Sink.written c.args.sink.now; files = g.F.Folder.files c.args.folder.now; source_faults = count; sink_faults = g.T.Sink.faults c.args.sink.now; folder_faults = g.F.Folder.faults c.args.folder.now }) (record { left = left; written = g.T.Sink.written c.say.new.sink; files = g.F.Folder.files c.read_input-2.new.folder; source_faults = count; sink_faults = g.T.Sink.faults c.say.new.sink; folder_faults = g.F.Folder.faults c.read_input-2.new.folder }) (g.F.Folder.faults c.read_input-2.new.folder) c.in-Ok-open.states c.in-Ok-read_input.bytes c.catch_interval.result 6 (both_read c.args.genesis.now c.args.blocks.now (record { left = left; written = g.T.Sink.written c.args.sink.now; files = g.F.Folder.files c.args.folder.now; source_faults = count; sink_faults = g.T.Sink.faults c.args.sink.now; folder_faults = g.F.Folder.faults c.args.folder.now }) (g.F.Folder.files c.read_input.new.folder) (g.F.Folder.files c.read_input-2.new.folder) (g.F.Folder.faults c.args.folder.now) (g.F.Folder.faults c.read_input.new.folder) (g.F.Folder.faults c.read_input.new.folder) (g.F.Folder.faults c.read_input-2.new.folder) (g.F.Folder.faults c.read_input-2.new.folder) c.in-Ok-open.states c.in-Ok.file c.as_slice.result.now c.in-Ok-read_input.bytes c.in-Ok.ensures.input c.as_slice.ensures c.in-Ok-open.ensures c.in-Ok.ensures.files c.in-Ok-read_input.ensures.input c.in-Ok-read_input.ensures.files (let a = c.in-Ok.ensures.later in let b = c.in-Ok-read_input.ensures.later in omega (arith, a, b))) c.catch_interval.ensures (sym c.is_catchpoint_round.ensures ∙ c.if-not-is_catchpoint_round.true) refl (record { taken = left_none left; kept = refl }) (subst (λ line. Says line (g.T.Sink.written c.args.sink.now) (g.T.Sink.written c.say.new.sink) (g.T.Sink.faults c.args.sink.now) (g.T.Sink.faults c.say.new.sink)) c.catchpoint_line.ensures c.say.ensures.says)

pub returns-clause-catches : goal.returns-clause-catches
returns-clause-catches g c = λ left count.
    let x = (both_read c.args.genesis.now c.args.blocks.now (record { left = left; written = g.T.Sink.written c.args.sink.now; files = g.F.Folder.files c.args.folder.now; source_faults = count; sink_faults = g.T.Sink.faults c.args.sink.now; folder_faults = g.F.Folder.faults c.args.folder.now }) (g.F.Folder.files c.read_input.new.folder) (g.F.Folder.files c.read_input-2.new.folder) (g.F.Folder.faults c.args.folder.now) (g.F.Folder.faults c.read_input.new.folder) (g.F.Folder.faults c.read_input.new.folder) (g.F.Folder.faults c.read_input-2.new.folder) (g.F.Folder.faults c.read_input-2.new.folder) c.in-Ok-open.states c.in-Ok.file c.as_slice.result.now c.in-Ok-read_input.bytes c.in-Ok.ensures.input c.as_slice.ensures c.in-Ok-open.ensures c.in-Ok.ensures.files c.in-Ok-read_input.ensures.input c.in-Ok-read_input.ensures.files (let a = c.in-Ok.ensures.later in let b = c.in-Ok-read_input.ensures.later in omega (arith, a, b))) in
    worked c.args.genesis.now c.args.blocks.now c.args.round (record { left = left; written = g.T.Sink.written c.args.sink.now; files = g.F.Folder.files c.args.folder.now; source_faults = count; sink_faults = g.T.Sink.faults c.args.sink.now; folder_faults = g.F.Folder.faults c.args.folder.now }) (record { left = left; written = g.T.Sink.written c.written.new.sink; files = g.F.Folder.files c.written.new.folder; source_faults = count; sink_faults = g.T.Sink.faults c.written.new.sink; folder_faults = g.F.Folder.faults c.written.new.folder }) (g.F.Folder.files c.read_input-2.new.folder) (g.F.Folder.faults c.read_input-2.new.folder) c.in-Ok-open.states c.in-Ok-read_input.bytes c.written.result.0 x (subst (λ bytes. IsEnded c.args.round x.genesis bytes (record { left = left; written = g.T.Sink.written c.args.sink.now; files = g.F.Folder.files c.read_input-2.new.folder; source_faults = count; sink_faults = g.T.Sink.faults c.args.sink.now; folder_faults = g.F.Folder.faults c.read_input-2.new.folder }) (record { left = left; written = g.T.Sink.written c.written.new.sink; files = g.F.Folder.files c.written.new.folder; source_faults = count; sink_faults = g.T.Sink.faults c.written.new.sink; folder_faults = g.F.Folder.faults c.written.new.folder }) c.written.result.0) c.as_slice-2.ensures (c.written.ensures.ended x.genesis left count x.held_is))
