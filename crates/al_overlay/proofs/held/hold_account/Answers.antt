use Rattle.std.proofs.Common.{◌∙◌, ap, sym}
use Rattle.std.specs.FinMap.{get}
use Rattle.al_base.specs.declared.key.Key.TheVariants as key
use Rattle.al_rows.specs.Rows.{RowMap, account_in}
use Rattle.al_overlay.specs.Held.{nows}
use Rattle.al_overlay.proofs.Overlays.{IsWork-view, none-now, now_below}
use Rattle.al_overlay.proofs.held.hold_account.Goals as goal

pub returns-in_err-hold-clause-work : goal.returns-in_err-hold-clause-work
returns-in_err-hold-clause-work g c = λ ss w.
    let m = g.V.RowView.rows c.viewed.new.view in
    let k = key.Account c.args.who.now in
    c.hold.ensures.work g.V.RowView.tells m ss (IsWork-view m w c.viewed.ensures.same) (λ t. c.in_ok-row.ensures.value t ∙ ap (λ (n : RowMap). get n k) (sym (c.viewed.ensures.same t)))

pub returns-clause-work : goal.returns-clause-work
returns-clause-work g c = λ ss w.
    let m = g.V.RowView.rows c.viewed.new.view in
    let k = key.Account c.args.who.now in
    c.hold.ensures.work g.V.RowView.tells m ss (IsWork-view m w c.viewed.ensures.same) (λ t. c.in_ok-row.ensures.value t ∙ ap (λ (n : RowMap). get n k) (sym (c.viewed.ensures.same t)))

pub returns-clause-value : goal.returns-clause-value
returns-clause-value g c = λ t.
    let k = key.Account c.args.who.now in
    c.account_in-r.ensures
    ∙ ap account_in (c.in_ok-row.ensures.value t ∙ now_below (nows c.args.rows.now.entries) (g.V.RowView.rows c.args.view.now) k (none-now c.args.rows.now.entries k c.requires))
