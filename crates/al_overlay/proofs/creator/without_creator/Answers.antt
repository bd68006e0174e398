use Rattle.std.proofs.Common.{sym, subst}
use Rattle.al_overlay.specs.Creators.{IsFirst, IsWithout, shows}
use Rattle.al_overlay.proofs.Creators.{greater_apart, less_apart, same_as, without_other}
use Rattle.al_overlay.proofs.creator.without_creator.Goals as goal

pub returns-in-Less : goal.returns-in-Less
returns-in-Less c = λ p h w. without_other p (shows c.args.rows.now.entries c.args.id) c.args.who.now w c.in-Some.first (subst (IsFirst p) c.in-Some.is h) (less_apart c.args.who.now c.in-Some.first.who (sym c.in-Less.ensures))

pub returns-in-Greater : goal.returns-in-Greater
returns-in-Greater c = λ p h w. without_other p (shows c.args.rows.now.entries c.args.id) c.args.who.now w c.in-Some.first (subst (IsFirst p) c.in-Some.is h) (greater_apart c.args.who.now c.in-Some.first.who (sym c.in-Greater.ensures))

pub returns-in-Equal : goal.returns-in-Equal
returns-in-Equal c = λ p h w. c.without_first.ensures p (subst (IsFirst p) c.in-Some.is h) (subst (IsWithout p (shows c.args.rows.now.entries c.args.id)) (same_as c.args.who.now c.in-Some.first.who (sym c.in-Equal.ensures)) w)
