use Rattle.std.proofs.Common.{refl}
use Rattle.al_opening.proofs.PastLemmas.{other_round}
use Rattle.al_opening.proofs.past.read_block.Goals as goal

pub returns-then-block-round-clause-reads : goal.returns-then-block-round-clause-reads
returns-then-block-round-clause-reads g c t = (refl, other_round _ _ _ (c.in-Ok.ensures.decodes t) c.if-block-round.true)
