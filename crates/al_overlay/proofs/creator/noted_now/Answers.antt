use Rattle.std.proofs.Common.{◌∙◌, sym}
use Rattle.al_overlay.proofs.creator.noted_now.Goals as goal

pub returns-then-creates_held : goal.returns-then-creates_held
returns-then-creates_held c = λ p h others. c.with_creator.ensures p _ h (record { here = sym c.creates_held.ensures ∙ c.if-creates_held.true; there = others })

pub returns-else-creates_held : goal.returns-else-creates_held
returns-else-creates_held c = λ p h others. c.without_creator.ensures p h (record { here = sym c.creates_held.ensures ∙ c.if-creates_held.false; there = others })
