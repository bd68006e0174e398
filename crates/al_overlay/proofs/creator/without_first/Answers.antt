use Rattle.std.proofs.Common.{refl}
use Rattle.al_overlay.specs.Creators.{shows}
use Rattle.al_overlay.proofs.Creators.{without_last}
use Rattle.al_overlay.proofs.creator.without_first.Goals as goal

pub returns-then-first : goal.returns-then-first
returns-then-first c = λ p h w. without_last p (shows c.args.rows.now.entries c.args.id) c.args.first.who w c.args.first h refl c.if-first.true
