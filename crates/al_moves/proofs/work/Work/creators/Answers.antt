use Rattle.std.proofs.Common.{ℕ, subst, IfOk, map}
use Rattle.al_moves.specs.Created.{AreCreatorChanges, creator_change_of}
use Rattle.al_overlay.specs.Work.{HasOneCreator, Worked}
use Rattle.al_moves.proofs.Created.{answered_changes}
use Rattle.al_moves.proofs.work.Work.creators.Goals as goal

pub returns-clause-changes : goal.returns-clause-changes
returns-clause-changes g c = λ t.
    let w = c.self.inside in
    subst (λ (x : Worked). ((id : ℕ) → HasOneCreator x.block id) → IfOk c.creator_changes.result (λ cs. AreCreatorChanges x.block x.now (map creator_change_of cs))) c.self.view_is
    (answered_changes w.rows.entries (g.V.RowView.rows w.view) c.creator_changes.result w.creators c.creator_changes.ensures.keys c.self.invariant.1 (c.creator_changes.ensures.changes t))
