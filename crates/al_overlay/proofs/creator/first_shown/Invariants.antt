use Rattle.std.proofs.Common.{◌≡◌}
use Rattle.al_rows.specs.Finite.{first_some}
use Rattle.al_overlay.specs.Creators.{shown}
use Rattle.al_overlay.specs.Held.{nows}
use Rattle.al_overlay.proofs.creator.first_shown.Given as goal

abbrev pub invariant-loop-key : goal.invariant-loop-key
invariant-loop-key l = first_some (λ e. shown l.id e.0 e.1) (nows l.key-iterator) ≡ first_some (λ e. shown l.id e.0 e.1) (nows l.rows.entries)
