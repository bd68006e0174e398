use Rattle.std.proofs.Common.{◌≡◌, length, refl, arith, rules}
use Rattle.std.proofs.lemmas.Grind.{common_steps}
use Rattle.al_trie.proofs.Uses.{spare_live, spare_stale, spare_there}
use Rattle.al_trie.proofs.arena.push_spare.Goals as goal

pub returns-clause-live : goal.returns-clause-live
returns-clause-live c = spare_live c.args.nodes.now.items c.push.new.self.items _ c.in_ok-push.ensures.items refl

pub returns-clause-cost : goal.returns-clause-cost
returns-clause-cost c = spare_stale c.args.nodes.now.items c.push.new.self.items _ c.in_ok-push.ensures.items refl

pub returns-clause-spare : goal.returns-clause-spare
returns-clause-spare c =
    let at : c.in-Ok.id ≡ length c.args.nodes.now.items = first_of (search rules, grind (arith, common_steps)) in
    spare_there c.args.nodes.now.items c.push.new.self.items c.in-Ok.id _ c.in_ok-push.ensures.items at refl
