use Rattle.std.proofs.Common.{◌≡◌, ◌<◌, length, set, slice_index_or, IsSome, false, sym, ap, ◌∙◌, refl, subst, arith, length-set}
use Rattle.std.proofs.lemmas.Option.{slice_get_within}
use Rattle.al_trie.specs.declared.arena.Node.{Node}
use Rattle.al_trie.specs.declared.kids.Link.{Link}
use Rattle.al_trie.specs.Kids.{find_kid}
use Rattle.al_trie.specs.Arena.{IsNodeAt}
use Rattle.al_trie.proofs.Fits.{same_node}
use Rattle.al_trie.proofs.Uses.{read_at}
use Rattle.al_trie.proofs.Cutting.{cut_arena, cut_cost}
use Rattle.al_trie.proofs.pruning.cut.Goals as goal

pub drop_kid-requires-clause-rising : goal.drop_kid-requires-clause-rising
drop_kid-requires-clause-rising c =
    let n : Node = slice_index_or c.args.nodes.now c.args.at.parent.0 c.index-nodes-at.result in
    (c.requires.arena.fits.each c.args.at.parent.0 n (read_at c.args.nodes.now c.args.at.parent.0 c.requires.barren.0 c.index-nodes-at.result c.requires.barren.1)).rising

pub drop_kid-requires-clause-some : goal.drop_kid-requires-clause-some
drop_kid-requires-clause-some c =
    let n : Node = slice_index_or c.args.nodes.now c.args.at.parent.0 c.index-nodes-at.result in
    let a : IsNodeAt c.args.nodes.now c.args.at.parent.0 n = read_at c.args.nodes.now c.args.at.parent.0 c.requires.barren.0 c.index-nodes-at.result c.requires.barren.1 in
    subst (λ o. IsSome {T = Link} o) (sym (ap (λ (y : Node). find_kid c.args.at.byte y.kids.items) (same_node a c.requires.barren.1) ∙ c.requires.barren.2)) refl

pub bounds-nodes-at-2 : goal.bounds-nodes-at-2
bounds-nodes-at-2 c =
    let l : c.args.at.id.0 < length c.args.nodes.now = slice_get_within c.args.nodes.now c.args.at.id.0 c.requires.barren.3 c.requires.barren.4.at in
    let s : length (set c.args.nodes.now c.args.at.parent.0 (record (slice_index_or c.args.nodes.now c.args.at.parent.0 c.index-nodes-at.result) { kids = c.drop_kid.new.kids })) ≡ length c.args.nodes.now = length-set c.args.nodes.now c.args.at.parent.0 _ in
    omega arith

pub returns-clause-arena : goal.returns-clause-arena
returns-clause-arena c =
    let n : Node = slice_index_or c.args.nodes.now c.args.at.parent.0 c.index-nodes-at.result in
    let a : IsNodeAt c.args.nodes.now c.args.at.parent.0 n = read_at c.args.nodes.now c.args.at.parent.0 c.requires.barren.0 c.index-nodes-at.result c.requires.barren.1 in
    cut_arena c.args.slots.now c.args.nodes.now c.requires.arena c.args.at.parent.0 c.args.at.byte c.args.at.id c.requires.barren c.drop_kid.new.kids c.drop_kid.ensures.rising n a c.drop_kid.ensures.find
    (record (slice_index_or (set c.args.nodes.now c.args.at.parent.0 (record n { kids = c.drop_kid.new.kids })) c.args.at.id.0 c.index-nodes-at-2.result) { live = false; next = c.args.free.now }) refl

pub returns-clause-cost : goal.returns-clause-cost
returns-clause-cost c =
    let n : Node = slice_index_or c.args.nodes.now c.args.at.parent.0 c.index-nodes-at.result in
    let a : IsNodeAt c.args.nodes.now c.args.at.parent.0 n = read_at c.args.nodes.now c.args.at.parent.0 c.requires.barren.0 c.index-nodes-at.result c.requires.barren.1 in
    cut_cost c.args.slots.now c.args.nodes.now c.requires.arena c.args.at.parent.0 c.args.at.byte c.args.at.id c.requires.barren c.drop_kid.new.kids c.drop_kid.ensures.rising n a c.drop_kid.ensures.find
    (record (slice_index_or (set c.args.nodes.now c.args.at.parent.0 (record n { kids = c.drop_kid.new.kids })) c.args.at.id.0 c.index-nodes-at-2.result) { live = false; next = c.args.free.now }) refl
