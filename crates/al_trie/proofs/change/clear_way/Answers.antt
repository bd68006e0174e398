use Rattle.std.proofs.Common.{◌≡◌, get_or, Some, sym, ap, ◌∙◌}
use Rattle.al_trie.specs.declared.arena.Node.{Node}
use Rattle.al_trie.specs.declared.kids.Link.TheVariants.{Leaf, Inner}
use Rattle.al_trie.specs.Kids.{find_kid}
use Rattle.al_trie.specs.Arena.{IsNodeAt, IsLeafAt}
use Rattle.al_trie.proofs.Fits.{same_node}
use Rattle.al_trie.proofs.Splitting.{gap_none, split_deep, no_leaf, none_leaf, within_last_leaf}
use Rattle.al_trie.proofs.Uses.{read_is}
use Rattle.al_trie.proofs.change.clear_way.Goals as goal

pub split-requires-clause-leaf : goal.split-requires-clause-leaf
split-requires-clause-leaf c =
    let a : IsNodeAt c.down.nodes.items c.down.place.id.0 c.index-node.result.now = read_is c.down.nodes.items c.down.place.id.0 c.down.invariant.last.node.0 c.index-node.result.now c.down.invariant.last.node.1 c.index-node.ensures in
    let found : find_kid (get_or c.args.element.now c.down.place.depth 0) c.index-node.result.now.kids.items ≡ c.link_at.result = ap (find_kid (get_or c.args.element.now c.down.place.depth 0)) (sym c.as_slice.ensures.value) ∙ sym c.link_at.ensures in
    let got : c.link_at.result ≡ Some (Leaf c.in-Some-Leaf.slot) = cc in
    let leaf : IsLeafAt c.args.slots.now c.down.nodes.items c.down.place.id.0 (get_or c.args.element.now c.down.place.depth 0) c.in-Some-Leaf.slot c.in-Some.x = (c.index-node.result.now, a, c.in-Some.ensures.holds, found ∙ got) in
    leaf

pub split-requires-clause-deep : goal.split-requires-clause-deep
split-requires-clause-deep c =
    let a : IsNodeAt c.down.nodes.items c.down.place.id.0 c.index-node.result.now = read_is c.down.nodes.items c.down.place.id.0 c.down.invariant.last.node.0 c.index-node.result.now c.down.invariant.last.node.1 c.index-node.ensures in
    let found : find_kid (get_or c.args.element.now c.down.place.depth 0) c.index-node.result.now.kids.items ≡ c.link_at.result = ap (find_kid (get_or c.args.element.now c.down.place.depth 0)) (sym c.as_slice.ensures.value) ∙ sym c.link_at.ensures in
    let got : c.link_at.result ≡ Some (Leaf c.in-Some-Leaf.slot) = cc in
    let leaf : IsLeafAt c.args.slots.now c.down.nodes.items c.down.place.id.0 (get_or c.args.element.now c.down.place.depth 0) c.in-Some-Leaf.slot c.in-Some.x = (c.index-node.result.now, a, c.in-Some.ensures.holds, found ∙ got) in
    split_deep c.args.slots.now c.down.nodes.items c.down.invariant.arena c.args.element.now c.told-element c.down.place.id.0 c.down.place.depth c.down.invariant.last c.in-Some-Leaf.slot c.in-Some.x leaf c.requires.absent

pub returns-in-Some-Inner-clause-gap : goal.returns-in-Some-Inner-clause-gap
returns-in-Some-Inner-clause-gap c = λ n b.
    let a : IsNodeAt c.down.nodes.items c.down.place.id.0 c.index-node.result.now = read_is c.down.nodes.items c.down.place.id.0 c.down.invariant.last.node.0 c.index-node.result.now c.down.invariant.last.node.1 c.index-node.ensures in
    let found : find_kid (get_or c.args.element.now c.down.place.depth 0) n.kids.items ≡ c.link_at.result = ap (λ (y : Node). find_kid (get_or c.args.element.now c.down.place.depth 0) y.kids.items) (same_node b a) ∙ ap (find_kid (get_or c.args.element.now c.down.place.depth 0)) (sym c.as_slice.ensures.value) ∙ sym c.link_at.ensures in
    let got : c.link_at.result ≡ Some (Inner c.in-Some-Inner.below) = cc in
    found ∙ gap_none c.args.slots.now c.down.nodes.items c.down.invariant.arena c.args.element.now c.told-element c.down.place.id.0 c.down.place.depth c.down.invariant.last n b c.link_at.result found (no_leaf c.link_at.result c.in-Some-Inner.below got)

pub returns-in-None-clause-gap : goal.returns-in-None-clause-gap
returns-in-None-clause-gap c = λ n b.
    let a : IsNodeAt c.down.nodes.items c.down.place.id.0 c.index-node.result.now = read_is c.down.nodes.items c.down.place.id.0 c.down.invariant.last.node.0 c.index-node.result.now c.down.invariant.last.node.1 c.index-node.ensures in
    let found : find_kid (get_or c.args.element.now c.down.place.depth 0) n.kids.items ≡ c.link_at.result = ap (λ (y : Node). find_kid (get_or c.args.element.now c.down.place.depth 0) y.kids.items) (same_node b a) ∙ ap (find_kid (get_or c.args.element.now c.down.place.depth 0)) (sym c.as_slice.ensures.value) ∙ sym c.link_at.ensures in
    found ∙ gap_none c.args.slots.now c.down.nodes.items c.down.invariant.arena c.args.element.now c.told-element c.down.place.id.0 c.down.place.depth c.down.invariant.last n b c.link_at.result found (none_leaf c.link_at.result c.in-None.is)

-- the bound of the place
pub element_at-requires : goal.element_at-requires
element_at-requires c =
    let a : IsNodeAt c.down.nodes.items c.down.place.id.0 c.index-node.result.now = read_is c.down.nodes.items c.down.place.id.0 c.down.invariant.last.node.0 c.index-node.result.now c.down.invariant.last.node.1 c.index-node.ensures in
    let found : find_kid (get_or c.args.element.now c.down.place.depth 0) c.index-node.result.now.kids.items ≡ c.link_at.result = ap (find_kid (get_or c.args.element.now c.down.place.depth 0)) (sym c.as_slice.ensures.value) ∙ sym c.link_at.ensures in
    let got : c.link_at.result ≡ Some (Leaf c.in-Some-Leaf.slot) = cc in
    within_last_leaf c.args.slots.now c.down.nodes.items c.down.invariant.arena c.args.element.now c.down.place.id.0 c.down.place.depth c.index-node.result.now a c.in-Some-Leaf.slot (found ∙ got)
