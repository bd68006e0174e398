use Rattle.std.proofs.Common.{[], get_or, arith}
use Rattle.std.proofs.lemmas.List.{get_or_default}
use Rattle.al_trie.proofs.Ending.{refused, kept_set, kept_once}
use Rattle.al_trie.proofs.trie.Trie.rebuild.Goals as goal

pub returns-in-Err : goal.returns-in-Err
returns-in-Err c = record { rebuilds = refused c.args.list.now c.loop-element.element-index c.loop-element-test.true (get_or c.args.list.now c.loop-element.element-index []) (get_or_default c.args.list.now c.loop-element.element-index [] (get_or c.args.list.now c.loop-element.element-index []) c.loop-element-test.true) c.loop-element.trie.elements c.add.new.self.elements c.loop-element.invariant.set c.in-Err.fault c.in-Err.ensures.adds }

pub loop-element-preserved : goal.loop-element-preserved
loop-element-preserved c = record {
  set = kept_set c.args.list.now c.loop-element.element-index c.loop-element-test.true (get_or c.args.list.now c.loop-element.element-index []) (get_or_default c.args.list.now c.loop-element.element-index [] (get_or c.args.list.now c.loop-element.element-index []) c.loop-element-test.true) c.loop-element.trie.elements c.add.new.self.elements c.loop-element.invariant.set tt c.in-Ok.ensures.adds;
  once = kept_once c.args.list.now c.loop-element.element-index c.loop-element-test.true (get_or c.args.list.now c.loop-element.element-index []) (get_or_default c.args.list.now c.loop-element.element-index [] (get_or c.args.list.now c.loop-element.element-index []) c.loop-element-test.true) c.loop-element.trie.elements c.add.new.self.elements c.loop-element.invariant.set tt c.in-Ok.ensures.adds c.loop-element.invariant.once;
  cost = let was = c.loop-element.invariant.cost in let more = c.add.ensures.cost in omega arith;
}
