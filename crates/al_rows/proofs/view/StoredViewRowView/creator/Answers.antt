use Rattle.std.proofs.Common.{◌∙◌, ap}
use Rattle.al_rows.specs.Rows.{creator_of}
use Rattle.al_rows.proofs.view.StoredViewRowView.creator.Goals as goal

pub returns-clause-value : goal.returns-clause-value
returns-clause-value c = λ t. c.creator_viewed.ensures ∙ ap (λ m. creator_of m c.args.id) c.self.view_is
