use Rattle.std.proofs.Common.{rules, refl, subst}
use Rattle.al_words.specs.Lines.{IsNumber, Reads, most_number}
use Rattle.al_words.proofs.Reading.{no_generate}
use Rattle.al_words.proofs.line.generate.Goals as goal

pub returns-in_default : goal.returns-in_default
returns-in_default c = no_generate c.args.a.now c.args.b.now (λ n k x y. subst (Reads (IsNumber 0 most_number c.args.a.now)) c.in_default.is c.in_ok-number.ensures n x)

pub returns-in-Some-2 : goal.returns-in-Some-2
returns-in-Some-2 c = (c.args.a.now, c.args.b.now, search rules, search rules, refl)
