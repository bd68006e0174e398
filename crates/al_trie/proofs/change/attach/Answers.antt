use Rattle.std.proofs.Common.{slice_index_or, refl, sym, ◌∙◌}
use Rattle.al_trie.proofs.Stale.{stale-set_same}
use Rattle.al_trie.proofs.Uses.{read_at, on_ok, inserted, attached_arena, taken_arena, on_err}
use Rattle.al_trie.proofs.change.attach.Goals as goal

pub returns-then-is_err-clause-arena : goal.returns-then-is_err-clause-arena
returns-then-is_err-clause-arena c =
    taken_arena c.args.slots.now.items c.store.new.slots.items c.release.new.slots.items c.args.nodes.now c.requires.arena c.args.element.now c.in_ok-slot.slot.0 c.store.new.free c.requires.absent
    c.in_ok-slot.ensures.keeps c.in_ok-slot.ensures.there c.in_ok-slot.ensures.undone c.release.ensures c.args.place.id.0 (slice_index_or c.args.nodes.now c.args.place.id.0 c.index-nodes-place.result) (read_at c.args.nodes.now c.args.place.id.0 c.requires.last.node.0 c.index-nodes-place.result c.requires.last.node.1) c.put_kid.new.kids
    (on_err c.put_kid.result _ c.put_kid.ensures.err (sym c.is_err.ensures.value ∙ c.if-is_err.true))

pub returns-then-is_err-clause-cost : goal.returns-then-is_err-clause-cost
returns-then-is_err-clause-cost c = stale-set_same c.args.nodes.now c.args.place.id.0 (slice_index_or c.args.nodes.now c.args.place.id.0 c.index-nodes-place.result) (record (slice_index_or c.args.nodes.now c.args.place.id.0 c.index-nodes-place.result) { kids = c.put_kid.new.kids }) (read_at c.args.nodes.now c.args.place.id.0 c.requires.last.node.0 c.index-nodes-place.result c.requires.last.node.1).at refl

pub returns-clause-arena : goal.returns-clause-arena
returns-clause-arena c =
    attached_arena c.args.slots.now.items c.store.new.slots.items c.args.nodes.now c.requires.arena c.args.element.now c.told-element c.args.place.id.0 c.args.place.depth c.requires.last c.requires.gap
    c.in_ok-slot.slot c.in_ok-slot.ensures.keeps c.in_ok-slot.ensures.there c.in_ok-slot.ensures.undone (slice_index_or c.args.nodes.now c.args.place.id.0 c.index-nodes-place.result) (read_at c.args.nodes.now c.args.place.id.0 c.requires.last.node.0 c.index-nodes-place.result c.requires.last.node.1) c.put_kid.new.kids c.put_kid.ensures.rising
    (on_ok c.put_kid.result _ c.put_kid.ensures.ok (sym c.is_err.ensures.value ∙ c.if-is_err.false))

pub returns-clause-ok : goal.returns-clause-ok
returns-clause-ok c = inserted c.args.slots.now.items c.store.new.slots.items c.in_ok-slot.slot.0 c.args.element.now c.in_ok-slot.ensures.there c.in_ok-slot.ensures.undone

pub returns-clause-cost : goal.returns-clause-cost
returns-clause-cost c = stale-set_same c.args.nodes.now c.args.place.id.0 (slice_index_or c.args.nodes.now c.args.place.id.0 c.index-nodes-place.result) (record (slice_index_or c.args.nodes.now c.args.place.id.0 c.index-nodes-place.result) { kids = c.put_kid.new.kids }) (read_at c.args.nodes.now c.args.place.id.0 c.requires.last.node.0 c.index-nodes-place.result c.requires.last.node.1).at refl
