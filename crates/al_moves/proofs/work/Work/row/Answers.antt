use Rattle.std.proofs.Common.{◌≡◌, ◌∙◌, ap, sym, subst, IfOk, Option}
use Rattle.std.specs.FinMap.{get}
use Rattle.al_rows.specs.declared.row.Row.{Row}
use Rattle.al_overlay.specs.Held.{nows}
use Rattle.al_overlay.specs.Work.{Worked}
use Rattle.al_overlay.proofs.Overlays.{now_changed, now_below}
use Rattle.al_moves.proofs.work.Work.row.Goals as goal

pub returns-in-Ok-Some-clause-value : goal.returns-in-Ok-Some-clause-value
returns-in-Ok-Some-clause-value g c = λ t.
    now_changed (nows c.self.inside.rows.entries) (g.V.RowView.rows c.self.inside.view) c.args.key.now c.in-Ok-Some.row (sym c.in-Ok-Some.field-0-is ∙ c.in-Ok-Some.ensures.value)
    ∙ ap (λ (w : Worked). get w.now c.args.key.now) c.self.view_is

pub returns-clause-value : goal.returns-clause-value
returns-clause-value g c = λ t.
    subst (λ (o : Option Row). IfOk c.viewed.result (λ row. row ≡ o))
    (now_below (nows c.self.inside.rows.entries) (g.V.RowView.rows c.self.inside.view) c.args.key.now (sym c.in-Ok-None.field-0-is ∙ c.in-Ok-None.ensures.value)
    ∙ ap (λ (w : Worked). get w.now c.args.key.now) c.self.view_is)
    (c.viewed.ensures.value t)
