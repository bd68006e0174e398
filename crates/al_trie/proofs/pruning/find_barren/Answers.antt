use Rattle.std.proofs.Common.{◌≡◌, ◌+◌, get_or, slice_index_or, Some, sym, ap, ◌∙◌, subst}
use Rattle.std.proofs.lemmas.Bool.{eqb-true}
use Rattle.std.proofs.lemmas.List.{nil_from_length}
use Rattle.std.proofs.lemmas.Option.{slice_get_within}
use Rattle.al_trie.specs.declared.arena.Node.{Node}
use Rattle.al_trie.specs.declared.kids.Link.TheVariants.{Inner}
use Rattle.al_trie.specs.Kids.{find_kid, Rising}
use Rattle.al_trie.specs.Arena.{IsNodeAt}
use Rattle.al_trie.proofs.Finding.{On}
use Rattle.al_trie.proofs.Uses.{on_start, inner_here, read_at}
use Rattle.al_trie.proofs.pruning.find_barren.Goals as goal

pub loop-depth-init : goal.loop-depth-init
loop-depth-init c = on_start c.args.slots.now c.args.nodes.now c.args.element.now c.requires.arena c.requires.some

pub bounds-nodes-id : goal.bounds-nodes-id
bounds-nodes-id c = slice_get_within c.args.nodes.now c.loop-depth.id.0 c.loop-depth.invariant.0 c.loop-depth.invariant.1.at

pub link_at-requires : goal.link_at-requires
link_at-requires c =
    let n : Node = slice_index_or c.args.nodes.now c.loop-depth.id.0 c.index-nodes-id.result in
    let a : IsNodeAt c.args.nodes.now c.loop-depth.id.0 n = read_at c.args.nodes.now c.loop-depth.id.0 c.loop-depth.invariant.0 c.index-nodes-id.result c.loop-depth.invariant.1 in
    subst (Rising 0) (sym c.as_slice.ensures.value) (c.requires.arena.fits.each c.loop-depth.id.0 n a).rising

pub bounds-nodes-below : goal.bounds-nodes-below
bounds-nodes-below c =
    let n : Node = slice_index_or c.args.nodes.now c.loop-depth.id.0 c.index-nodes-id.result in
    let a : IsNodeAt c.args.nodes.now c.loop-depth.id.0 n = read_at c.args.nodes.now c.loop-depth.id.0 c.loop-depth.invariant.0 c.index-nodes-id.result c.loop-depth.invariant.1 in
    let got : c.link_at.result ≡ Some (Inner c.in-Some-Inner.below) = cc in
    let found : find_kid (get_or c.args.element.now c.loop-depth.depth 0) n.kids.items ≡ Some (Inner c.in-Some-Inner.below) = ap (find_kid (get_or c.args.element.now c.loop-depth.depth 0)) (sym c.as_slice.ensures.value) ∙ sym c.link_at.ensures ∙ got in
    let on : On c.args.nodes.now c.args.element.now c.in-Some-Inner.below.0 (c.loop-depth.depth + 1) = inner_here c.args.slots.now c.args.nodes.now c.requires.arena c.args.element.now c.told-element c.loop-depth.id.0 c.loop-depth.depth c.loop-depth.invariant n a c.in-Some-Inner.below found in
    slice_get_within c.args.nodes.now c.in-Some-Inner.below.0 on.0 on.1.at

pub returns-then-is_empty : goal.returns-then-is_empty
returns-then-is_empty c =
    let n : Node = slice_index_or c.args.nodes.now c.loop-depth.id.0 c.index-nodes-id.result in
    let a : IsNodeAt c.args.nodes.now c.loop-depth.id.0 n = read_at c.args.nodes.now c.loop-depth.id.0 c.loop-depth.invariant.0 c.index-nodes-id.result c.loop-depth.invariant.1 in
    let got : c.link_at.result ≡ Some (Inner c.in-Some-Inner.below) = cc in
    let found : find_kid (get_or c.args.element.now c.loop-depth.depth 0) n.kids.items ≡ Some (Inner c.in-Some-Inner.below) = ap (find_kid (get_or c.args.element.now c.loop-depth.depth 0)) (sym c.as_slice.ensures.value) ∙ sym c.link_at.ensures ∙ got in
    let on : On c.args.nodes.now c.args.element.now c.in-Some-Inner.below.0 (c.loop-depth.depth + 1) = inner_here c.args.slots.now c.args.nodes.now c.requires.arena c.args.element.now c.told-element c.loop-depth.id.0 c.loop-depth.depth c.loop-depth.invariant n a c.in-Some-Inner.below found in
    let m : Node = slice_index_or c.args.nodes.now c.in-Some-Inner.below.0 c.index-nodes-below.result in
    let below : IsNodeAt c.args.nodes.now c.in-Some-Inner.below.0 m = read_at c.args.nodes.now c.in-Some-Inner.below.0 on.0 c.index-nodes-below.result on.1 in
    (n, a, found, m, below, nil_from_length m.kids.items (sym m.kids.ok.0 ∙ eqb-true m.kids.len 0 (sym c.is_empty.ensures ∙ c.if-is_empty.true)))

pub loop-depth-preserved : goal.loop-depth-preserved
loop-depth-preserved c =
    let n : Node = slice_index_or c.args.nodes.now c.loop-depth.id.0 c.index-nodes-id.result in
    let a : IsNodeAt c.args.nodes.now c.loop-depth.id.0 n = read_at c.args.nodes.now c.loop-depth.id.0 c.loop-depth.invariant.0 c.index-nodes-id.result c.loop-depth.invariant.1 in
    let got : c.link_at.result ≡ Some (Inner c.in-Some-Inner.below) = cc in
    let found : find_kid (get_or c.args.element.now c.loop-depth.depth 0) n.kids.items ≡ Some (Inner c.in-Some-Inner.below) = ap (find_kid (get_or c.args.element.now c.loop-depth.depth 0)) (sym c.as_slice.ensures.value) ∙ sym c.link_at.ensures ∙ got in
    inner_here c.args.slots.now c.args.nodes.now c.requires.arena c.args.element.now c.told-element c.loop-depth.id.0 c.loop-depth.depth c.loop-depth.invariant n a c.in-Some-Inner.below found
