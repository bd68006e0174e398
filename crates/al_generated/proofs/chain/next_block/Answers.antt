use Rattle.std.proofs.Common.{◌+◌, ◌∙◌, arith}
use Rattle.al_generated.proofs.MadeLemmas.{count_few, due_next, fits_next, front_few, items_are, on_ok_from, round_few, stands}
use Rattle.al_generated.proofs.chain.next_block.Goals as goal

pub next_items-requires-clause-round : goal.next_items-requires-clause-round
next_items-requires-clause-round c = (let few = front_few c.args.states.now c.args.generator.now c.front-round.result c.requires.made c.front-round.ensures.front in omega (arith, few))

pub next_items-requires-clause-count : goal.next_items-requires-clause-count
next_items-requires-clause-count c = count_few c.args.states.now c.args.generator.now c.requires.made

pub next_block-requires-clause-round : goal.next_block-requires-clause-round
next_block-requires-clause-round c t at = round_few c.args.states.now c.args.generator.now t c.requires.made at

pub returns-clause-block : goal.returns-clause-block
returns-clause-block c number n t made few at =
    let s = c.args.states.now in
    let g = c.args.generator.now in
    let front = c.front-round.ensures.front in
    let items = c.in_ok-items.ensures.items ∙ items_are number n (c.front-round.result + 1) c.args.genesis.now s g made few (omega (arith, front)) c.requires.genesis in
    due_next number n c.in_ok-items.items s g t c.next_block.result made items at c.next_block.ensures.due

pub returns-clause-fits : goal.returns-clause-fits
returns-clause-fits c = (let front = c.front-round.ensures.front in fits_next (c.front-round.result + 1) c.args.genesis.now c.in_ok-items.items c.args.states.now c.args.generator.now c.next_block.result c.requires.made c.in_ok-items.ensures.items (omega (arith, front)) c.requires.genesis c.next_block.ensures.due c.next_block.ensures.fits)

pub returns-clause-progress : goal.returns-clause-progress
returns-clause-progress c number n made = on_ok_from c.next_block.result (stands number n c.args.states.now c.args.generator.now c.next_items.new.self made (c.in_ok-items.ensures.state))
