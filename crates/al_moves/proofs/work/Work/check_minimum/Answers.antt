use Rattle.std.proofs.Common.{◌≡◌, ◌∙◌, sym, ap}
use Rattle.al_rows.specs.Finite.{first_some}
use Rattle.al_moves.specs.Minimum.{first_shortfall, shortfall}
use Rattle.al_overlay.specs.Held.{now_at, nows}
use Rattle.al_overlay.specs.Work.{Worked}
use Rattle.al_overlay.proofs.Overlays.{some-now}
use Rattle.al_moves.proofs.Shortfalls.{first_shortfall-changed}
use Rattle.al_overlay.proofs.Steps.{asks-some, asks-none}
use Rattle.al_moves.proofs.work.Work.check_minimum.Goals as goal
use Rattle.al_moves.proofs.work.Work.check_minimum.Goals.{in-Some, in-None}

pub returns : goal.returns
returns g c =
    let w = c.args.self.now in
    let is : c.first_shortfall.result ≡ first_shortfall w.level w.special w.start w.now =
    c.first_shortfall.ensures
    ∙ ap (first_some (λ e. shortfall c.self.inside.level c.self.inside.special e.0 e.1 (now_at (nows c.self.inside.rows.entries) e.0))) c.as_slice-started.ensures.value
    ∙ first_shortfall-changed c.self.inside.level c.self.inside.special (g.V.RowView.rows c.self.inside.view) (nows c.self.inside.rows.entries) c.self.inside.started.items (λ q s. some-now c.self.inside.rows.entries q (c.self.invariant.0.has_row q s)) c.self.invariant.0.ordered
    ∙ ap (λ (w : Worked). first_shortfall w.level w.special w.start w.now) c.self.view_is in
    elim c.match-first_shortfall.branch [
      | in-Some b ↦ rw b.result-is (asks-some _ w _ b.in-Some.rule (sym is ∙ b.in-Some.is))
      | in-None b ↦ rw b.result-is (asks-none _ w _ tt (sym is ∙ b.in-None.is))
    ]
