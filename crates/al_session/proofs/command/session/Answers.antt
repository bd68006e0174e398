use Rattle.std.proofs.Common.{refl, length, ◌≤◌, Some, sym, subst}
use Rattle.al_session.specs.Outside.{Holds, most_genesis}
use Rattle.al_session.proofs.FileLemmas.{unread_ends}
use Rattle.al_session.proofs.RunLemmas.{served_session, shown_digit, unread_session}
use Rattle.al_session.proofs.TakingLemmas.{left_none}
use Rattle.al_session.proofs.command.session.Goals as goal

pub returns-in-Ok-open-clause-runs : goal.returns-in-Ok-open-clause-runs
returns-in-Ok-open-clause-runs g c =
    let input = c.in-Ok.ensures.input in
    served_session c.args.name.now c.as_slice.result.now _ _ _ c.in-Ok-open.states c.serve_link.new.states c.serve_link.result (subst (λ file. Holds (g.F.Folder.files c.args.folder.now) c.args.name.now (Some file)) (sym c.as_slice.ensures) input.0) (subst (λ bytes. length bytes ≤ most_genesis) (sym c.as_slice.ensures) input.1) c.in-Ok-open.ensures c.serve_link.ensures.serves c.serve_link.ensures.states c.serve_link.ensures.source_fault c.serve_link.ensures.sink_fault c.serve_link.ensures.kept c.status_of.ensures

pub returns-in-Err-clause-runs : goal.returns-in-Err-clause-runs
returns-in-Err-clause-runs g c = unread_session c.args.name.now _ _ _ (unread_ends most_genesis c.args.name.now _ _ c.in-Err.fault _ c.in-Err.ensures.input (record { taken = left_none (g.S.Source.left c.args.source.now); kept = refl }) c.unread.ensures.tells)

pub refuse-requires : goal.refuse-requires
refuse-requires g c = shown_digit c.as_slice.result.now c.in-Err-open.fault c.in-Err-open.ensures
