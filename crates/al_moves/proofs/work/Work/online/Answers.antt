use Rattle.std.proofs.Common.{subst, IfOk, map}
use Rattle.al_moves.specs.Online.{AreOnlineChanges, online_change_of}
use Rattle.al_overlay.specs.Work.{Worked}
use Rattle.al_moves.proofs.Onlines.{answered_changes, answered_ordered}
use Rattle.al_moves.proofs.work.Work.online.Goals as goal

pub returns-clause-changes : goal.returns-clause-changes
returns-clause-changes g c = λ t.
    let w = c.self.inside in
    subst (λ (x : Worked). IfOk c.online_changes.result (λ cs. AreOnlineChanges x.block x.now (map online_change_of cs))) c.self.view_is
    (answered_changes w.rows.entries c.online_changes.ensures.keys c.online_changes.result (g.V.RowView.rows w.view) c.self.invariant.0 t c.online_changes.ensures.items)

pub returns-clause-ordered : goal.returns-clause-ordered
returns-clause-ordered g c = answered_ordered c.self.inside.rows.entries c.online_changes.ensures.keys c.online_changes.result c.online_changes.ensures.items
