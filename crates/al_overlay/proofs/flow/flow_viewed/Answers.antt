use Rattle.std.proofs.Common.{◌∙◌, ap, sym}
use Rattle.std.proofs.lemmas.Result.{on_ok_weaker}
use Rattle.std.specs.FinMap.{get}
use Rattle.al_base.specs.declared.key.Key.TheVariants as key
use Rattle.al_rows.specs.Finite.{overlaid}
use Rattle.al_rows.specs.Rows.{RowMap}
use Rattle.al_overlay.specs.Held.{nows}
use Rattle.al_overlay.proofs.Overlays.{IsWork-view}
use Rattle.al_overlay.proofs.flow.flow_viewed.Goals as goal

pub returns-clause-work : goal.returns-clause-work
returns-clause-work g c = λ w.
    let m = g.V.RowView.rows c.viewed.new.view in
    let k = key.Account c.args.who.now in
    c.flow_new.ensures.work g.V.RowView.tells m (IsWork-view m w c.viewed.ensures.same) (λ t. c.in_ok-old.ensures.value t ∙ ap (λ (n : RowMap). get n k) (sym (c.viewed.ensures.same t)))

pub returns-clause-start : goal.returns-clause-start
returns-clause-start g c = λ t w.
    let m = g.V.RowView.rows c.args.view.now in
    on_ok_weaker c.flow_new.result
    (λ is. ap (λ (n : RowMap). overlaid c.flow_new.new.started.items (overlaid (nows c.flow_new.new.rows.entries) n)) (c.viewed.ensures.same t)
    ∙ is g.V.RowView.tells m w c.requires (c.in_ok-old.ensures.value t))
    c.flow_new.ensures.start
