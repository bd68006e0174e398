use Rattle.std.proofs.Common.{set, slice_index_or, refl, sym, subst}
use Rattle.al_trie.specs.Slots.{full, Inserted}
use Rattle.al_trie.specs.Arena.{IsArena}
use Rattle.al_trie.proofs.Stale.{stale-set_same}
use Rattle.al_trie.proofs.SlotLemmas.{Inserted-release}
use Rattle.al_trie.proofs.Uses.{read_at, detached_arena}
use Rattle.al_trie.proofs.change.detach.Goals as goal

pub returns-clause-arena : goal.returns-clause-arena
returns-clause-arena c =
    subst (λ places. IsArena places (set c.args.nodes.now c.args.place.id.0 (record (slice_index_or c.args.nodes.now c.args.place.id.0 c.index-nodes-place.result) { kids = c.drop_kid.new.kids }))) (sym c.release.ensures)
    (detached_arena c.args.slots.now.items c.args.nodes.now c.requires.arena c.args.element.now c.told-element c.args.place.id.0 c.args.place.depth c.requires.last c.args.slot c.requires.leaf c.requires.different c.args.free.now
    (slice_index_or c.args.nodes.now c.args.place.id.0 c.index-nodes-place.result) (read_at c.args.nodes.now c.args.place.id.0 c.requires.last.node.0 c.index-nodes-place.result c.requires.last.node.1) c.drop_kid.new.kids c.drop_kid.ensures.rising c.drop_kid.ensures.find)

pub returns-clause-gone : goal.returns-clause-gone
returns-clause-gone c = subst (λ places. Inserted c.args.element.now (full places) (full c.args.slots.now.items)) (sym c.release.ensures) (Inserted-release c.args.slots.now.items c.args.slot.0 c.args.free.now c.args.element.now c.requires.leaf.2)

pub returns-clause-cost : goal.returns-clause-cost
returns-clause-cost c = stale-set_same c.args.nodes.now c.args.place.id.0 (slice_index_or c.args.nodes.now c.args.place.id.0 c.index-nodes-place.result) (record (slice_index_or c.args.nodes.now c.args.place.id.0 c.index-nodes-place.result) { kids = c.drop_kid.new.kids }) (read_at c.args.nodes.now c.args.place.id.0 c.requires.last.node.0 c.index-nodes-place.result c.requires.last.node.1).at refl
