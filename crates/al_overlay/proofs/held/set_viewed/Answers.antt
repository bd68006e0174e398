use Rattle.std.proofs.Common.{◌∙◌, ap, sym}
use Rattle.std.specs.FinMap.{get}
use Rattle.al_rows.specs.Finite.{overlaid}
use Rattle.al_rows.specs.Rows.{RowMap}
use Rattle.al_overlay.specs.Held.{nows}
use Rattle.al_overlay.proofs.Overlays.{IsWork-view}
use Rattle.al_overlay.proofs.held.set_viewed.Goals as goal

pub returns-in_err-set_new-clause-work : goal.returns-in_err-set_new-clause-work
returns-in_err-set_new-clause-work g c = λ w.
    let m = g.V.RowView.rows c.viewed.new.view in
    c.set_new.ensures.work g.V.RowView.tells m (IsWork-view m w c.viewed.ensures.same) (λ t. c.in_ok-old.ensures.value t ∙ ap (λ (n : RowMap). get n c.args.key.now) (sym (c.viewed.ensures.same t)))

pub returns-clause-work : goal.returns-clause-work
returns-clause-work g c = λ w.
    let m = g.V.RowView.rows c.viewed.new.view in
    c.set_new.ensures.work g.V.RowView.tells m (IsWork-view m w c.viewed.ensures.same) (λ t. c.in_ok-old.ensures.value t ∙ ap (λ (n : RowMap). get n c.args.key.now) (sym (c.viewed.ensures.same t)))

pub returns-clause-start : goal.returns-clause-start
returns-clause-start g c = λ t w.
    let m = g.V.RowView.rows c.args.view.now in
    ap (λ (n : RowMap). overlaid c.set_new.new.started.items (overlaid (nows c.set_new.new.rows.entries) n)) (c.viewed.ensures.same t)
    ∙ c.in_ok-set_new.ensures.start g.V.RowView.tells m w c.requires.absent (c.in_ok-old.ensures.value t)
