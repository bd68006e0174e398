use Rattle.std.proofs.Common.{◌≡◌, refl, rules}
use Rattle.al_opening.proofs.PastLemmas.{of_chain, other_round}
use Rattle.al_opening.proofs.past.read_first.Goals as goal

pub returns-then-block-from-clause-reads : goal.returns-then-block-from-clause-reads
returns-then-block-from-clause-reads g c t =
    let same : c.in-Ok.block.header.genesis_hash ≡ c.args.genesis_hash.now = search rules in
    let s = c.in-Ok.ensures.decodes t in
    (refl, other_round _ _ _ s c.if-block-from.true, of_chain _ _ _ _ s same)
