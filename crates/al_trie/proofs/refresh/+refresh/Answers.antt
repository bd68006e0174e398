use Rattle.std.proofs.Common.{◌≡◌, ℕ, ◌+◌, slice_index_or, sym, ap, ◌∙◌, subst, arith, rules}
use Rattle.std.proofs.lemmas.Option.{slice_get_within}
use Rattle.al_trie.specs.Arena.{stale}
use Rattle.al_trie.proofs.Uses.{read_at}
use Rattle.al_trie.proofs.Refreshing.{IsRefreshing, refreshed_then, refreshing_start, refreshing_long, refreshing_known, refreshing_below, refreshing_leaf, refreshing_inner}
use Rattle.al_trie.proofs.refresh.+refresh.Goals.{in-Leaf, in-Inner+in_ok-_summary-in-Inner}
use Rattle.al_trie.proofs.refresh.+refresh.Goals as goal

pub loop-k-init : goal.loop-k-init
loop-k-init g t c = record {
  going = refreshing_start c.args.slots.now c.args.nodes.now c.args.id.0 c.args.height c.len-count.result c.requires.arena c.requires.node _ (read_at c.args.nodes.now c.args.id.0 c.requires.node.0 c.index-nodes-id.result c.requires.node.1) (c.len-count.ensures ∙ (slice_index_or c.args.nodes.now c.args.id.0 c.index-nodes-id.result).kids.ok.0);
  cost = omega arith;
}

pub bounds-nodes-id-in-loop-k : goal.bounds-nodes-id-in-loop-k
bounds-nodes-id-in-loop-k g t c = slice_get_within c.loop-k.nodes c.args.id.0 c.loop-k.invariant.going.node.0 c.loop-k.invariant.going.node.1.at

pub index-kid-requires : goal.index-kid-requires
index-kid-requires g t c =
    let long = refreshing_long c.args.slots.now c.args.nodes.now c.loop-k.nodes c.args.id.0 c.args.height c.len-count.result c.loop-k.k c.loop-k.invariant.going (slice_index_or c.loop-k.nodes c.args.id.0 c.index-nodes-id-in-loop-k.result) (read_at c.loop-k.nodes c.args.id.0 c.loop-k.invariant.going.node.0 c.index-nodes-id-in-loop-k.result c.loop-k.invariant.going.node.1) in
    let same = (slice_index_or c.loop-k.nodes c.args.id.0 c.index-nodes-id-in-loop-k.result).kids.ok.0 in
    let less = c.loop-k-test.true in
    omega arith

pub overflow_sub-height : goal.overflow_sub-height
overflow_sub-height g t c = (refreshing_below c.args.slots.now c.args.nodes.now c.loop-k.nodes c.args.id.0 c.args.height c.len-count.result c.loop-k.k c.loop-k.invariant.going (slice_index_or c.loop-k.nodes c.args.id.0 c.index-nodes-id-in-loop-k.result) (read_at c.loop-k.nodes c.args.id.0 c.loop-k.invariant.going.node.0 c.index-nodes-id-in-loop-k.result c.loop-k.invariant.going.node.1) c.index-kid.result.now (first_of (search rules, omega arith)) c.index-kid.ensures c.in-Inner.below c.in-Inner.is).1

pub refresh-requires : goal.refresh-requires
refresh-requires g t c =
    let height = refreshing_below c.args.slots.now c.args.nodes.now c.loop-k.nodes c.args.id.0 c.args.height c.len-count.result c.loop-k.k c.loop-k.invariant.going (slice_index_or c.loop-k.nodes c.args.id.0 c.index-nodes-id-in-loop-k.result) (read_at c.loop-k.nodes c.args.id.0 c.loop-k.invariant.going.node.0 c.index-nodes-id-in-loop-k.result c.loop-k.invariant.going.node.1) c.index-kid.result.now (first_of (search rules, omega arith)) c.index-kid.ensures c.in-Inner.below c.in-Inner.is in
    λ κs b. (first_of (search rules, omega (arith, c.decreases, height.1)), (b, (c.loop-k.invariant.going.arena, height.0)))

pub returns-in_err-_summary-in-Inner-clause-refreshed : goal.returns-in_err-_summary-in-Inner-clause-refreshed
returns-in_err-_summary-in-Inner-clause-refreshed g t c = refreshed_then c.args.nodes.now c.loop-k.nodes c.refresh.new.nodes c.loop-k.invariant.going.refreshed c.refresh.ensures.refreshed

pub loop-k-preserved : goal.loop-k-preserved
loop-k-preserved g t c = elim c.match-kid.branch [
  | in-Leaf w ↦ record {
    going = subst (λ ns. IsRefreshing c.args.slots.now c.args.nodes.now ns c.args.id.0 c.args.height c.len-count.result (c.loop-k.k + 1)) (sym w.nodes-is)
        (refreshing_leaf c.args.slots.now c.args.nodes.now c.loop-k.nodes c.args.id.0 c.args.height c.len-count.result c.loop-k.k c.loop-k.invariant.going (slice_index_or c.loop-k.nodes c.args.id.0 c.index-nodes-id-in-loop-k.result) (read_at c.loop-k.nodes c.args.id.0 c.loop-k.invariant.going.node.0 c.index-nodes-id-in-loop-k.result c.loop-k.invariant.going.node.1) c.index-kid.result.now (first_of (search rules, omega arith)) c.index-kid.ensures w.in-Leaf.slot w.in-Leaf.is);
    cost = let s : ◌≡◌ {A = ℕ} c.match-kid.steps c.loop-k.steps = w.steps-is in let n : stale c.match-kid.nodes ≡ stale c.loop-k.nodes = ap stale w.nodes-is in let was = c.loop-k.invariant.cost in omega arith;
  }
  | in-Inner+in_ok-_summary-in-Inner w ↦ record {
    going = subst (λ ns. IsRefreshing c.args.slots.now c.args.nodes.now ns c.args.id.0 c.args.height c.len-count.result (c.loop-k.k + 1)) (sym w.nodes-is)
        (refreshing_inner c.args.slots.now c.args.nodes.now c.loop-k.nodes c.args.id.0 c.args.height c.len-count.result c.loop-k.k c.loop-k.invariant.going (slice_index_or c.loop-k.nodes c.args.id.0 c.index-nodes-id-in-loop-k.result) (read_at c.loop-k.nodes c.args.id.0 c.loop-k.invariant.going.node.0 c.index-nodes-id-in-loop-k.result c.loop-k.invariant.going.node.1) c.index-kid.result.now (first_of (search rules, omega arith)) c.index-kid.ensures w.in-Inner.below w.in-Inner.is w.refresh.new.nodes w.refresh.ensures.arena w.refresh.ensures.refreshed _ w.in_ok-_summary-in-Inner.ensures.summary);
    cost = let s : ◌≡◌ {A = ℕ} c.match-kid.steps w.refresh.new.steps = w.steps-is in let n : stale c.match-kid.nodes ≡ stale w.refresh.new.nodes = ap stale w.nodes-is in let was = c.loop-k.invariant.cost in let now = w.refresh.ensures.cost in omega arith;
  }
]

pub finish-requires-clause-known : goal.finish-requires-clause-known
finish-requires-clause-known g t c = (
  c.loop-k.invariant.going.node.0,
  c.loop-k.invariant.going.node.1,
  refreshing_known c.args.slots.now c.args.nodes.now c.loop-k.nodes c.args.id.0 c.args.height c.len-count.result c.loop-k.k c.loop-k.invariant.going c.loop-k.invariant.going.node.0 c.loop-k.invariant.going.node.1 (first_of (search rules, omega arith)),
)

pub returns-clause-refreshed : goal.returns-clause-refreshed
returns-clause-refreshed g t c = refreshed_then c.args.nodes.now c.loop-k.nodes c.finish.new.nodes c.loop-k.invariant.going.refreshed c.finish.ensures.refreshed
