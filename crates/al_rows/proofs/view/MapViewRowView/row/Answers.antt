use Rattle.std.proofs.Common.{sym, ap, ◌∙◌}
use Rattle.std.specs.FinMap.{get}
use Rattle.al_rows.specs.Rows.{InRange}
use Rattle.al_rows.proofs.Views.{get-of_entries, ranged-get}
use Rattle.al_rows.proofs.view.MapViewRowView.row.Goals as goal
use Rattle.al_rows.proofs.view.MapViewRowView.row.Goals.{in-Ok, in-Err}

pub returns-clause-value : goal.returns-clause-value
returns-clause-value c = λ t. elim c.match-copy_at.branch [
  | in-Ok w ↦ rw w.result-is (w.in-Ok.ensures ∙ sym (get-of_entries c.self.inside.rows c.args.key.now) ∙ ap (λ m. get m c.args.key.now) c.self.view_is)
  | in-Err w ↦ rw w.result-is tt
]

pub returns-clause-range : goal.returns-clause-range
returns-clause-range c = elim c.match-copy_at.branch [
  | in-Ok w ↦ rw (w.result-is, w.in-Ok.ensures) (ranged-get InRange c.self.inside.rows.entries c.args.key.now c.self.invariant)
  | in-Err w ↦ rw w.result-is tt
]
