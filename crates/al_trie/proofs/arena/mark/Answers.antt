use Rattle.std.proofs.Common.{◌≡◌, get_or, slice_index_or, Some, sym, ap, ◌∙◌, subst}
use Rattle.std.proofs.lemmas.Option.{slice_get_within}
use Rattle.al_trie.specs.declared.kids.Link.TheVariants.{Inner}
use Rattle.al_trie.specs.Kids.{find_kid, Rising}
use Rattle.al_trie.specs.Arena.{stale}
use Rattle.al_trie.proofs.Finding.{marked_arena, marked_down, marked_last, marked_cost}
use Rattle.al_trie.proofs.Uses.{read_at, marking_start}
use Rattle.al_trie.proofs.arena.mark.Goals as goal

pub down-init : goal.down-init
down-init c = marking_start c.args.slots.now c.args.nodes.now c.args.element.now c.requires.arena c.requires.some

pub bounds-nodes-id : goal.bounds-nodes-id
bounds-nodes-id c = slice_get_within c.down.nodes c.down.id.0 c.down.invariant.node.0 c.down.invariant.node.1.at

pub link_at-requires : goal.link_at-requires
link_at-requires c = subst (Rising 0) (sym c.as_slice.ensures.value) ((c.down.invariant.arena.fits.each c.down.id.0 (slice_index_or c.down.nodes c.down.id.0 c.index-nodes-id.result) (read_at c.down.nodes c.down.id.0 c.down.invariant.node.0 c.index-nodes-id.result c.down.invariant.node.1)).rising)

pub down-preserved : goal.down-preserved
down-preserved c =
    let found : find_kid (get_or c.args.element.now c.down.depth 0) (slice_index_or c.down.nodes c.down.id.0 c.index-nodes-id.result).kids.items ≡ c.link_at.result = ap (find_kid (get_or c.args.element.now c.down.depth 0)) (sym c.as_slice.ensures.value) ∙ sym c.link_at.ensures in
    let got : c.link_at.result ≡ Some (Inner c.in-Some-Inner.next) = cc in
    marked_down c.args.slots.now c.down.nodes c.args.element.now c.down.id.0 c.down.depth (stale c.args.nodes.now) c.told-element c.down.invariant (slice_index_or c.down.nodes c.down.id.0 c.index-nodes-id.result) (read_at c.down.nodes c.down.id.0 c.down.invariant.node.0 c.index-nodes-id.result c.down.invariant.node.1) c.in-Some-Inner.next (found ∙ got)

pub returns-in_default-clause-arena : goal.returns-in_default-clause-arena
returns-in_default-clause-arena c = marked_arena c.args.slots.now c.down.nodes c.args.element.now c.down.id.0 c.down.depth (stale c.args.nodes.now) c.told-element c.down.invariant (slice_index_or c.down.nodes c.down.id.0 c.index-nodes-id.result) (read_at c.down.nodes c.down.id.0 c.down.invariant.node.0 c.index-nodes-id.result c.down.invariant.node.1)

pub returns-in_default-clause-last : goal.returns-in_default-clause-last
returns-in_default-clause-last c =
    let found : find_kid (get_or c.args.element.now c.down.depth 0) (slice_index_or c.down.nodes c.down.id.0 c.index-nodes-id.result).kids.items ≡ c.link_at.result = ap (find_kid (get_or c.args.element.now c.down.depth 0)) (sym c.as_slice.ensures.value) ∙ sym c.link_at.ensures in
    marked_last c.args.slots.now c.down.nodes c.args.element.now c.down.id.0 c.down.depth (stale c.args.nodes.now) c.told-element c.down.invariant (slice_index_or c.down.nodes c.down.id.0 c.index-nodes-id.result) (read_at c.down.nodes c.down.id.0 c.down.invariant.node.0 c.index-nodes-id.result c.down.invariant.node.1) (λ id h. (let got : c.link_at.result ≡ Some (Inner id) = sym found ∙ h in cc))

pub returns-in_default-clause-cost : goal.returns-in_default-clause-cost
returns-in_default-clause-cost c = marked_cost c.args.slots.now c.down.nodes c.args.element.now c.down.id.0 c.down.depth (stale c.args.nodes.now) c.told-element c.down.invariant (slice_index_or c.down.nodes c.down.id.0 c.index-nodes-id.result) (read_at c.down.nodes c.down.id.0 c.down.invariant.node.0 c.index-nodes-id.result c.down.invariant.node.1)

pub returns-in_default-2-clause-arena : goal.returns-in_default-2-clause-arena
returns-in_default-2-clause-arena c = marked_arena c.args.slots.now c.down.nodes c.args.element.now c.down.id.0 c.down.depth (stale c.args.nodes.now) c.told-element c.down.invariant (slice_index_or c.down.nodes c.down.id.0 c.index-nodes-id.result) (read_at c.down.nodes c.down.id.0 c.down.invariant.node.0 c.index-nodes-id.result c.down.invariant.node.1)

pub returns-in_default-2-clause-last : goal.returns-in_default-2-clause-last
returns-in_default-2-clause-last c =
    let found : find_kid (get_or c.args.element.now c.down.depth 0) (slice_index_or c.down.nodes c.down.id.0 c.index-nodes-id.result).kids.items ≡ c.link_at.result = ap (find_kid (get_or c.args.element.now c.down.depth 0)) (sym c.as_slice.ensures.value) ∙ sym c.link_at.ensures in
    marked_last c.args.slots.now c.down.nodes c.args.element.now c.down.id.0 c.down.depth (stale c.args.nodes.now) c.told-element c.down.invariant (slice_index_or c.down.nodes c.down.id.0 c.index-nodes-id.result) (read_at c.down.nodes c.down.id.0 c.down.invariant.node.0 c.index-nodes-id.result c.down.invariant.node.1) (λ id h. (let got : c.link_at.result ≡ Some (Inner id) = sym found ∙ h in cc))

pub returns-in_default-2-clause-cost : goal.returns-in_default-2-clause-cost
returns-in_default-2-clause-cost c = marked_cost c.args.slots.now c.down.nodes c.args.element.now c.down.id.0 c.down.depth (stale c.args.nodes.now) c.told-element c.down.invariant (slice_index_or c.down.nodes c.down.id.0 c.index-nodes-id.result) (read_at c.down.nodes c.down.id.0 c.down.invariant.node.0 c.index-nodes-id.result c.down.invariant.node.1)
