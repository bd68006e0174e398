use Rattle.std.proofs.Common.{◌≡◌, length, get_or, Some, [], refl, sym, ap, ◌∙◌, subst, arith}
use Rattle.std.proofs.lemmas.Option.{slice_get_within}
use Rattle.al_trie.specs.declared.kids.Link.TheVariants.{Leaf, Inner}
use Rattle.al_trie.specs.Kids.{find_kid, Rising}
use Rattle.std.proofs.lemmas.Bool.{eqb-true, eqb-false, both_ways}
use Rattle.al_trie.proofs.Uses.{on_start, none_here, leaf_here, inner_here, read_is}
use Rattle.al_trie.proofs.Finding.{empty_below}
use Rattle.al_trie.specs.Slots.{full}
use Rattle.al_trie.proofs.arena.slot_of.Goals as goal

pub returns-then-is_empty : goal.returns-then-is_empty
returns-then-is_empty c = empty_below (full c.args.slots.now) [] c.args.element.now (c.requires.arena.fits.none (eqb-true (length c.args.nodes.now) 0 (sym c.is_empty.ensures ∙ c.if-is_empty.true))) refl

pub loop-depth-init : goal.loop-depth-init
loop-depth-init c = let z = eqb-false (length c.args.nodes.now) 0 (sym c.is_empty.ensures ∙ c.if-is_empty.false) in on_start c.args.slots.now c.args.nodes.now c.args.element.now c.requires.arena (omega (arith, z))

pub bounds-nodes-id : goal.bounds-nodes-id
bounds-nodes-id c = slice_get_within c.args.nodes.now c.loop-depth.id.0 c.loop-depth.invariant.0 c.loop-depth.invariant.1.at

pub link_at-requires : goal.link_at-requires
link_at-requires c = subst (Rising 0) (sym c.as_slice.ensures.value) ((c.requires.arena.fits.each c.loop-depth.id.0 c.index-nodes-id.result (read_is c.args.nodes.now c.loop-depth.id.0 c.loop-depth.invariant.0 c.index-nodes-id.result c.loop-depth.invariant.1 c.index-nodes-id.is)).rising)

pub returns-in-None : goal.returns-in-None
returns-in-None c =
    none_here c.args.slots.now c.args.nodes.now c.requires.arena c.args.element.now c.told-element c.loop-depth.id.0 c.loop-depth.depth c.loop-depth.invariant c.index-nodes-id.result (read_is c.args.nodes.now c.loop-depth.id.0 c.loop-depth.invariant.0 c.index-nodes-id.result c.loop-depth.invariant.1 c.index-nodes-id.is)
    (ap (find_kid (get_or c.args.element.now c.loop-depth.depth 0)) (sym c.as_slice.ensures.value) ∙ sym c.link_at.ensures ∙ c.in-None.is)

pub loop-depth-preserved : goal.loop-depth-preserved
loop-depth-preserved c =
    let got : c.link_at.result ≡ Some (Inner c.in-Some-Inner.next) = cc in
    inner_here c.args.slots.now c.args.nodes.now c.requires.arena c.args.element.now c.told-element c.loop-depth.id.0 c.loop-depth.depth c.loop-depth.invariant c.index-nodes-id.result (read_is c.args.nodes.now c.loop-depth.id.0 c.loop-depth.invariant.0 c.index-nodes-id.result c.loop-depth.invariant.1 c.index-nodes-id.is) c.in-Some-Inner.next
    (ap (find_kid (get_or c.args.element.now c.loop-depth.depth 0)) (sym c.as_slice.ensures.value) ∙ sym c.link_at.ensures ∙ got)

pub returns-else-is_at : goal.returns-else-is_at
returns-else-is_at c =
    let got : c.link_at.result ≡ Some (Leaf c.in-Some-Leaf.slot) = cc in
    leaf_here c.args.slots.now c.args.nodes.now c.requires.arena c.args.element.now c.told-element c.loop-depth.id.0 c.loop-depth.depth c.loop-depth.invariant c.index-nodes-id.result (read_is c.args.nodes.now c.loop-depth.id.0 c.loop-depth.invariant.0 c.index-nodes-id.result c.loop-depth.invariant.1 c.index-nodes-id.is) c.in-Some-Leaf.slot
    (ap (find_kid (get_or c.args.element.now c.loop-depth.depth 0)) (sym c.as_slice.ensures.value) ∙ sym c.link_at.ensures ∙ got)
    (λ h. both_ways c.is_at.result c.if-is_at.false (c.is_at.ensures.1 h))
