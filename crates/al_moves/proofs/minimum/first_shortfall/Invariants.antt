use Rattle.std.proofs.Common.{◌≡◌, drop}
use Rattle.al_moves.specs.Minimum.{shortfall}
use Rattle.al_rows.specs.Finite.{first_some}
use Rattle.al_overlay.specs.Held.{now_at, nows}
use Rattle.al_moves.proofs.minimum.first_shortfall.Given as goal

abbrev pub invariant-loop-entry : goal.invariant-loop-entry
invariant-loop-entry l =
    first_some (λ e. shortfall l.level l.special e.0 e.1 (now_at (nows l.rows.entries) e.0)) (drop l.entry-index l.started)
    ≡ first_some (λ e. shortfall l.level l.special e.0 e.1 (now_at (nows l.rows.entries) e.0)) l.started
