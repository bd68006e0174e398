use Rattle.std.proofs.Common.{◌∙◌, sym, ap₂}
use Rattle.al_moves.specs.Online.{same_online}
use Rattle.al_moves.proofs.Onlines.{online_tests}
use Rattle.al_moves.proofs.work.online.same_online.Goals as goal

pub returns-in-Some-Some : goal.returns-in-Some-Some
returns-in-Some-Some c = c.eq.ensures ∙ online_tests c.in-Some-Some.before c.in-Some-Some.now ∙ sym (ap₂ same_online c.in-Some-Some.is-0 c.in-Some-Some.is-1)
