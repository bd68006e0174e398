use Rattle.std.proofs.Common.{◌≡◌, rules, sym, subst, Some}
use Rattle.al_session.specs.Outside.{Outside}
use Rattle.al_session.specs.Sessions.{RunsOf}
use Rattle.al_words.specs.declared.line.Line.TheVariants as lines
use Rattle.al_session.proofs.RunLemmas.{generated_runs}
use Rattle.al_session.proofs.command.run_line.Goals as goal

pub returns-else-blocks-gt-MOST_GENERATED-clause-runs : goal.returns-else-blocks-gt-MOST_GENERATED-clause-runs
returns-else-blocks-gt-MOST_GENERATED-clause-runs g c = generated_runs c.args.line c.in-Some-Generate.number c.in-Some-Generate.blocks _ _ _ (search rules) c.if-blocks-gt-MOST_GENERATED.false (c.generation.ensures.generates (g.S.Source.left c.args.source.now) (g.S.Source.faults c.args.source.now))

pub returns-in-Some-Catchpoint-clause-runs : goal.returns-in-Some-Catchpoint-clause-runs
returns-in-Some-Catchpoint-clause-runs g c =
    let is : c.args.line ≡ Some (lines.Catchpoint c.in-Some-Catchpoint.genesis c.in-Some-Catchpoint.blocks c.in-Some-Catchpoint.round) = search rules in
    let before : Outside = record { left = g.S.Source.left c.args.source.now; written = g.T.Sink.written c.args.sink.now; files = g.F.Folder.files c.args.folder.now; source_faults = g.S.Source.faults c.args.source.now; sink_faults = g.T.Sink.faults c.args.sink.now; folder_faults = g.F.Folder.faults c.args.folder.now } in
    let after : Outside = record { left = g.S.Source.left c.args.source.now; written = g.T.Sink.written c.catching.new.sink; files = g.F.Folder.files c.catching.new.folder; source_faults = g.S.Source.faults c.args.source.now; sink_faults = g.T.Sink.faults c.catching.new.sink; folder_faults = g.F.Folder.faults c.catching.new.folder } in
    subst (λ line. RunsOf line before after c.catching.result.0) (sym is) (c.catching.ensures.catches (g.S.Source.left c.args.source.now) (g.S.Source.faults c.args.source.now))
