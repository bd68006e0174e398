use Rattle.std.proofs.Common.{sym, ap, ◌∙◌}
use Rattle.al_rows.specs.Finite.{first_some}
use Rattle.al_rows.specs.Rows.{creator_at, creator_of}
use Rattle.al_rows.proofs.Views.{entries-of}
use Rattle.al_rows.proofs.view.MapViewRowView.creator.Goals as goal

pub returns-clause-value : goal.returns-clause-value
unfolding creator_of
returns-clause-value c = λ t.
    c.creator_in.ensures.first
    ∙ ap (first_some (λ e. creator_at c.args.id e.0 e.1)) (sym (entries-of c.self.inside.rows.entries c.creator_in.ensures.ordered))
    ∙ ap (λ m. creator_of m c.args.id) c.self.view_is
