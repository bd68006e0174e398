use Rattle.std.proofs.Common.{arith}
use Rattle.al_states.proofs.MakeLemmas.{block_is, few_rounds}
use Rattle.al_states.proofs.states.States.next_block.Goals as goal

pub next_due-due-requires-clause-few : goal.next_due-due-requires-clause-few
next_due-due-requires-clause-few c = few_rounds c.args.self.now c.requires.states c.requires.round

pub overflow_add-header : goal.overflow_add-header
overflow_add-header c = (let n = few_rounds c.args.self.now c.requires.states c.requires.round in omega (arith, n))

pub returns-clause-due : goal.returns-clause-due
returns-clause-due c t at = block_is c.args.self.now c.requires.states c.args.ts c.len.result c.args.items c.next_due-due.result c.in_ok-block.field-0 c.new.result t c.next_due-due.ensures c.len.ensures c.in_ok-block.ensures c.new.ensures at
