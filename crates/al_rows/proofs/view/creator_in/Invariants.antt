use Rattle.std.proofs.Common.{◌≡◌}
use Rattle.al_rows.specs.Finite.{first_some}
use Rattle.al_rows.specs.Rows.{creator_at}
use Rattle.al_rows.proofs.view.creator_in.Given as goal

abbrev pub invariant-loop-key : goal.invariant-loop-key
invariant-loop-key l = first_some (λ e. creator_at l.id e.0 e.1) l.key-iterator ≡ first_some (λ e. creator_at l.id e.0 e.1) l.rows.entries
