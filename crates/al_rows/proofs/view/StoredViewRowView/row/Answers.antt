use Rattle.std.proofs.Common.{sym, ap, ◌∙◌}
use Rattle.std.specs.FinMap.{get}
use Rattle.al_rows.proofs.Views.{get-bare, ranged-bare}
use Rattle.al_rows.proofs.view.StoredViewRowView.row.Goals as goal
use Rattle.al_rows.proofs.view.StoredViewRowView.row.Goals.{in-Ok, in-Err}

pub returns-clause-value : goal.returns-clause-value
returns-clause-value c = λ t. elim c.match-copy_stored.branch [
  | in-Ok w ↦ rw w.result-is (w.in-Ok.ensures ∙ sym (get-bare c.self.inside.rows.now c.args.key.now) ∙ ap (λ m. get m c.args.key.now) c.self.view_is)
  | in-Err w ↦ rw w.result-is tt
]

pub returns-clause-range : goal.returns-clause-range
returns-clause-range c = elim c.match-copy_stored.branch [
  | in-Ok w ↦ rw (w.result-is, w.in-Ok.ensures) (ranged-bare c.self.inside.rows.now c.args.key.now c.self.invariant.0)
  | in-Err w ↦ rw w.result-is tt
]
