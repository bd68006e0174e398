use Rattle.std.proofs.Common.{subst, IfOk, map}
use Rattle.al_moves.specs.Changes.{AreChanges, change_of}
use Rattle.al_overlay.specs.Work.{Worked}
use Rattle.al_moves.proofs.Changes.{finish_changes, finish_ordered, finish_kept}
use Rattle.al_moves.proofs.work.Work.end.Goals as goal

pub returns-clause-changes : goal.returns-clause-changes
returns-clause-changes g c = λ t.
    subst (λ (w : Worked). IfOk c.changes.result (λ cs. AreChanges w.block w.now (map change_of cs))) c.self.view_is
    (finish_changes _ c.changes.result (g.V.RowView.rows c.self.inside.view) c.self.invariant.0 t c.changes.ensures.items c.changes.ensures.ordered)

pub returns-clause-ordered : goal.returns-clause-ordered
returns-clause-ordered g c = finish_ordered _ c.changes.result c.changes.ensures.items c.changes.ensures.ordered

pub returns-clause-kept : goal.returns-clause-kept
returns-clause-kept g c = finish_kept _ c.changes.result c.self.invariant.0.kept c.changes.ensures.items c.changes.ensures.ordered
