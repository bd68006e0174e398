use Rattle.std.proofs.Common.{◌≡◌, ◌∙◌, ap, sym, subst, IfOk}
use Rattle.std.specs.FinMap.{get}
use Rattle.al_moves.specs.declared.resource.Counts.{Counts}
use Rattle.al_moves.specs.Resources.{counts_at}
use Rattle.al_overlay.specs.Held.{nows}
use Rattle.al_overlay.specs.Work.{Worked}
use Rattle.al_overlay.proofs.Holds.{held-as, viewed-as}
use Rattle.al_moves.proofs.work.Work.counts.Goals as goal

pub returns-in-Some-clause-value : goal.returns-in-Some-clause-value
returns-in-Some-clause-value g c = λ t.
    held-as (counts_at c.args.key.now) (nows c.self.inside.rows.entries) (g.V.RowView.rows c.self.inside.view) c.args.key.now c.in-Some.counts c.in-Some.ensures
    ∙ ap (λ (w : Worked). counts_at c.args.key.now (get w.now c.args.key.now)) c.self.view_is

pub returns-in-None-clause-value : goal.returns-in-None-clause-value
returns-in-None-clause-value g c = λ t.
    subst (λ (o : Counts). IfOk c.counts_viewed.result (λ x. x ≡ o))
    (ap (counts_at c.args.key.now) (viewed-as (counts_at c.args.key.now) (nows c.self.inside.rows.entries) (g.V.RowView.rows c.self.inside.view) c.args.key.now c.in-None.ensures)
    ∙ ap (λ (w : Worked). counts_at c.args.key.now (get w.now c.args.key.now)) c.self.view_is)
    (c.counts_viewed.ensures.value t)
