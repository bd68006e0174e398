use Rattle.al_step_tests.proofs.Spelled.{effects_within, few_within}
use Rattle.al_step_tests.proofs.eval.decoded.Goals as goal

pub returns-clause-effects : goal.returns-clause-effects
returns-clause-effects c = effects_within c.args.bytes.now c.decode_block.result c.decode_block.ensures.right

pub returns-clause-few : goal.returns-clause-few
returns-clause-few c = few_within c.args.bytes.now c.decode_block.result c.decode_block.ensures.right c.requires
