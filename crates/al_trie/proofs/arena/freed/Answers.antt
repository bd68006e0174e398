use Rattle.std.proofs.Common.{Some, sym, ap, ◌∙◌, arith, rules}
use Rattle.std.proofs.lemmas.Option.{slice_get-get_or}
use Rattle.al_trie.proofs.arena.freed.Goals as goal

pub returns-else-node : goal.returns-else-node
returns-else-node c = (c.index-nodes-id.result, slice_get-get_or c.args.nodes.now c.args.id.0 c.index-nodes-id.result (first_of (search rules, omega arith)) ∙ ap Some (sym c.index-nodes-id.is), c.if-node.false)
