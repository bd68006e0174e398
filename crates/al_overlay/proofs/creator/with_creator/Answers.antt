use Rattle.std.proofs.Common.{sym, subst}
use Rattle.al_overlay.specs.Creators.{IsFirst}
use Rattle.al_overlay.proofs.Creators.{with_none, with_less, with_equal}
use Rattle.al_overlay.proofs.creator.with_creator.Goals as goal

pub returns-in_default : goal.returns-in_default
returns-in_default c = λ p q h w. with_none p q c.args.who.now w (subst (IsFirst p) c.in_default.is h)

pub returns-in-Less : goal.returns-in-Less
returns-in-Less c = λ p q h w. with_less p q c.args.who.now w c.in-Some.first (subst (IsFirst p) c.in-Some.is h) (sym c.in-Less.ensures)

pub returns-in-Equal : goal.returns-in-Equal
returns-in-Equal c = λ p q h w. with_equal p q c.args.who.now w c.in-Some.first (subst (IsFirst p) c.in-Some.is h) (sym c.in-Equal.ensures)
