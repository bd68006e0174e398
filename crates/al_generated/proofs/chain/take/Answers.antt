use Rattle.std.proofs.Common.{◌∙◌, ◌++◌, ap}
use Rattle.al_block.specs.Block.{block}
use Rattle.al_msgpack.specs.Spelled.{spelled}
use Rattle.al_msgpack.specs.declared.val.Val.TheVariants as values
use Rattle.al_generated.proofs.StopLemmas.{stopped}
use Rattle.al_generated.proofs.TakeLemmas.{took}
use Rattle.al_states.specs.Keeping.{held}
use Rattle.al_generated.proofs.chain.take.Goals as goal

pub returns-in-Ok-clause-taken : goal.returns-in-Ok-clause-taken
returns-in-Ok-clause-taken c late = (let text = spelled (values.Map (block.write c.args.block.now)) in took (held c.args.states.now) (held c.accept.new.self) c.args.block.now c.as_slice.result.now c.in-Ok.field-0 c.requires.fits (c.as_slice.ensures.value ∙ c.in_ok-encode_block.ensures.bytes ∙ ap (λ x. x ++ text) c.new-bytes.ensures.items) c.in-Ok.ensures.accepts late)

pub returns-clause-stops : goal.returns-clause-stops
returns-clause-stops c s at round prev = (let text = spelled (values.Map (block.write c.args.block.now)) in stopped (Unit {0}) (held c.args.states.now).origin s (held c.args.states.now).blocks c.as_slice.result.now c.args.block.now c.in-Err.refusal c.refused_by.result c.requires.fits (c.as_slice.ensures.value ∙ c.in_ok-encode_block.ensures.bytes ∙ ap (λ x. x ++ text) c.new-bytes.ensures.items) at round prev c.refused_by.ensures c.in-Err.ensures.accepts.1)
