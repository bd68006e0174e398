use Rattle.std.proofs.Common.{◌≡◌, subst}
use Rattle.al_moves.specs.Money.{IsWithin}
use Rattle.al_moves.specs.Totals.{counts}
use Rattle.al_overlay.specs.Work.{Worked}
use Rattle.al_moves.proofs.Counts.{work_counted}
use Rattle.al_moves.proofs.work.Work.totals.Goals as goal

pub returns : goal.returns
returns g c = λ t.
    let w = c.self.inside in
    let all = work_counted w.level g.V.RowView.tells (g.V.RowView.rows w.view) w.rows.entries w.started.items c.args.before.now c.totals_of.result c.self.invariant.0 t c.totals_of.ensures.ordered c.totals_of.ensures.value in
    subst (λ (x : Worked). c.args.before.now ≡ counts x.level x.block → IsWithin x.level x.block → IsWithin x.level x.now → c.totals_of.result ≡ counts x.level x.now) c.self.view_is all
