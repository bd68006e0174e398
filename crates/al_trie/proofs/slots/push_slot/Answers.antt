use Rattle.std.proofs.Common.{◌≡◌, length, arith, rules}
use Rattle.std.proofs.lemmas.Grind.{common_steps}
use Rattle.al_trie.proofs.Uses.{stored_there, stored_undone, stored_keeps}
use Rattle.al_trie.proofs.slots.push_slot.Goals as goal

pub returns-clause-keeps : goal.returns-clause-keeps
returns-clause-keeps c = stored_keeps c.args.slots.now.items c.push.new.self.items c.args.element.now c.in_ok-push.ensures.items

pub returns-clause-there : goal.returns-clause-there
returns-clause-there c =
    let at : c.in-Ok.id ≡ length c.args.slots.now.items = first_of (search rules, grind (arith, common_steps)) in
    stored_there c.args.slots.now.items c.push.new.self.items c.in-Ok.id c.args.element.now c.in_ok-push.ensures.items at

pub returns-clause-undone : goal.returns-clause-undone
returns-clause-undone c =
    let at : c.in-Ok.id ≡ length c.args.slots.now.items = first_of (search rules, grind (arith, common_steps)) in
    stored_undone c.args.slots.now.items c.push.new.self.items c.in-Ok.id c.args.element.now c.in_ok-push.ensures.items at
