use Rattle.std.proofs.Common.{◌∙◌, subst, IfSome}
use Rattle.std.specs.FinMap.{from_entries}
use Rattle.al_rows.specs.Rows.{AreCreators, bare}
use Rattle.al_rows.proofs.Views.{creator-bare}
use Rattle.al_rows.proofs.view.creator_viewed.Goals as goal

pub returns-in-Some : goal.returns-in-Some
unfolding AreCreators
returns-in-Some c =
    c.creator_indexed.ensures
    ∙ subst (λ o. IfSome o (λ i. AreCreators (bare (from_entries c.args.rows.now.entries)) i.now)) c.in-Some.is c.requires c.args.id

pub returns-in-None : goal.returns-in-None
returns-in-None c = c.creator_stored.ensures.first ∙ creator-bare c.args.rows.now.entries c.args.id c.creator_stored.ensures.ordered
