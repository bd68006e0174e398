use Rattle.std.proofs.Common.{sym, subst}
use Rattle.al_overlay.specs.Creators.{IsLeast, shows}
use Rattle.al_overlay.proofs.Creators.{least_held}
use Rattle.al_overlay.proofs.creator.least_shown.Goals as goal

pub returns : goal.returns
returns c = subst (IsLeast (shows c.args.rows.now.entries c.args.id)) (sym c.first_shown.ensures.first) (least_held c.args.rows.now.entries c.args.id c.first_shown.ensures.ordered)
