use Rattle.al_generated.proofs.MadeLemmas.{extended}
use Rattle.al_generated.proofs.PointLemmas.{stops_at}
use Rattle.al_generated.proofs.chain.extend.Goals as goal

pub returns-clause-made : goal.returns-clause-made
returns-clause-made c number n made few = extended number n c.args.states.now c.take.new.states c.args.generator.now c.next_block.new.generator c.in_ok-block.block c.take.result made few c.take.ensures.states (λ t at. c.in_ok-block.ensures.block number n t made few at) (c.in_ok-block.ensures.progress number n made) c.take.ensures.taken

pub returns-clause-stops : goal.returns-clause-stops
returns-clause-stops c number n made few = stops_at number n c.args.states.now c.args.generator.now c.in_ok-block.block c.take.result made few (λ t at. c.in_ok-block.ensures.block number n t made few at) c.take.ensures.stops
