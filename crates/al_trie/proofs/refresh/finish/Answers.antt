use Rattle.std.proofs.Common.{slice_index_or, Some, ap, ◌∙◌}
use Rattle.al_trie.specs.declared.arena.Node.{Node}
use Rattle.al_trie.specs.Arena.{IsNodeAt}
use Rattle.al_trie.proofs.Uses.{read_at}
use Rattle.al_trie.proofs.Fits.{same_node}
use Rattle.al_trie.proofs.Marks.{set_at}
use Rattle.al_trie.proofs.Refreshing.{refreshed_set, finished_arena, finished_cost}
use Rattle.al_trie.proofs.refresh.finish.Goals as goal

pub returns-clause-arena : goal.returns-clause-arena
returns-clause-arena g c =
    let n : Node = slice_index_or c.args.nodes.now c.args.id.0 c.index-nodes-id.result in
    let a : IsNodeAt c.args.nodes.now c.args.id.0 n = read_at c.args.nodes.now c.args.id.0 c.requires.known.0 c.index-nodes-id.result c.requires.known.1 in
    finished_arena c.args.slots.now c.args.nodes.now c.requires.arena c.args.id.0 c.requires.known.0 c.requires.known.1 c.requires.known.2 n a c.in_ok-summary.summary (c.in_ok-summary.ensures.summary n a)

pub returns-clause-refreshed : goal.returns-clause-refreshed
returns-clause-refreshed g c =
    let n : Node = slice_index_or c.args.nodes.now c.args.id.0 c.index-nodes-id.result in
    let a : IsNodeAt c.args.nodes.now c.args.id.0 n = read_at c.args.nodes.now c.args.id.0 c.requires.known.0 c.index-nodes-id.result c.requires.known.1 in
    refreshed_set c.args.nodes.now c.args.id.0 n (Some c.in_ok-summary.summary) a.at (ap (λ (y : Node). y.summary) (same_node a (read_at c.args.nodes.now c.args.id.0 c.requires.known.0 _ c.requires.known.1)) ∙ c.in_default.is)

pub returns-clause-cost : goal.returns-clause-cost
returns-clause-cost g c =
    let n : Node = slice_index_or c.args.nodes.now c.args.id.0 c.index-nodes-id.result in
    let a : IsNodeAt c.args.nodes.now c.args.id.0 n = read_at c.args.nodes.now c.args.id.0 c.requires.known.0 c.index-nodes-id.result c.requires.known.1 in
    finished_cost c.args.nodes.now c.args.id.0 n a c.in_ok-summary.summary (ap (λ (y : Node). y.summary) (same_node a (read_at c.args.nodes.now c.args.id.0 c.requires.known.0 _ c.requires.known.1)) ∙ c.in_default.is) c.args.steps.now c.summarize.new.steps c.in_ok-summary.ensures.cost

pub returns-clause-summary : goal.returns-clause-summary
returns-clause-summary g c = λ m b.
    let n : Node = slice_index_or c.args.nodes.now c.args.id.0 c.index-nodes-id.result in
    let a : IsNodeAt c.args.nodes.now c.args.id.0 n = read_at c.args.nodes.now c.args.id.0 c.requires.known.0 c.index-nodes-id.result c.requires.known.1 in
    ap (λ (y : Node). y.summary) (same_node b (set_at c.args.nodes.now c.args.id.0 n (record n { summary = Some c.in_ok-summary.summary }) a a.live))
