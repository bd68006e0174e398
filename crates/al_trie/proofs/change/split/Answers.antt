use Rattle.std.proofs.Common.{◌≡◌, ◌+◌, get_or, [], ◌∷◌, ◌++◌, None, IsSome, true, refl, sym, ap, ◌∙◌, subst, arith}
use Rattle.al_trie.specs.declared.kids.Link.{Link}
use Rattle.al_trie.specs.declared.kids.Link.TheVariants.{Leaf}
use Rattle.al_trie.specs.Arena.{stale}
use Rattle.al_trie.proofs.KidLemmas.{kid}
use Rattle.al_trie.proofs.Splitting.{split_arena, split_last, read_beside, beside_rising, beside_leaf, beside_cost}
use Rattle.al_trie.proofs.change.split.Goals as goal

pub turn_kid-requires-clause-rising : goal.turn_kid-requires-clause-rising
turn_kid-requires-clause-rising c = beside_rising c.args.slots.now c.args.nodes.now.items c.spare.new.nodes.items c.requires.arena c.in_ok-id.ensures.live c.args.place.id.0 c.args.place.depth c.args.element.now c.requires.last c.in_ok-id.id.0 c.in_ok-id.ensures.spare (record { path = c.args.x.now; depth = c.args.place.depth + 1; summary = None; live = true; next = None; kids = c.push.new.self }) c.index_mut-above.result.now c.index_mut-above.ensures.value

pub turn_kid-requires-clause-some : goal.turn_kid-requires-clause-some
turn_kid-requires-clause-some c =
    subst (λ o. IsSome {T = Link} o) (sym (beside_leaf c.args.slots.now c.args.nodes.now.items c.spare.new.nodes.items c.requires.arena c.in_ok-id.ensures.live c.args.place.id.0 c.args.place.depth c.args.element.now c.requires.last c.in_ok-id.id.0 c.in_ok-id.ensures.spare (record { path = c.args.x.now; depth = c.args.place.depth + 1; summary = None; live = true; next = None; kids = c.push.new.self }) c.index_mut-above.result.now c.index_mut-above.ensures.value (get_or c.args.element.now c.args.place.depth 0) c.args.slot c.args.x.now c.requires.leaf)) refl

pub returns-clause-arena : goal.returns-clause-arena
returns-clause-arena c = split_arena c.args.slots.now c.args.nodes.now.items c.spare.new.nodes.items c.requires.arena c.in_ok-id.ensures.live c.in_ok-id.ensures.more c.args.place.id.0 c.args.place.depth c.args.element.now c.told-element c.requires.last c.args.slot c.args.x.now c.told-x c.requires.leaf
    c.in_ok-id.id.0 c.in_ok-id.ensures.spare c.in_ok-id.id refl c.requires.deep (record { path = c.args.x.now; depth = c.args.place.depth + 1; summary = None; live = true; next = None; kids = c.push.new.self }) refl refl refl refl
    (c.in_ok-push.ensures.items ∙ ap (λ xs. xs ++ kid (get_or c.args.x.now (c.args.place.depth + 1) 0) (Leaf c.args.slot) ∷ []) c.new-kids.ensures.items) (c.fits-x (c.args.place.depth + 1))
    c.index_mut-above.result.now (read_beside c.args.slots.now c.args.nodes.now.items c.spare.new.nodes.items c.requires.arena c.in_ok-id.ensures.live c.args.place.id.0 c.args.place.depth c.args.element.now c.requires.last c.in_ok-id.id.0 c.in_ok-id.ensures.spare (record { path = c.args.x.now; depth = c.args.place.depth + 1; summary = None; live = true; next = None; kids = c.push.new.self }) c.index_mut-above.result.now c.index_mut-above.ensures.value) c.turn_kid.new.kids c.turn_kid.ensures.rising c.turn_kid.ensures.find

pub returns-clause-last : goal.returns-clause-last
returns-clause-last c = split_last c.args.slots.now c.args.nodes.now.items c.spare.new.nodes.items c.requires.arena c.in_ok-id.ensures.live c.in_ok-id.ensures.more c.args.place.id.0 c.args.place.depth c.args.element.now c.told-element c.requires.last c.args.slot c.args.x.now c.told-x c.requires.leaf
    c.in_ok-id.id.0 c.in_ok-id.ensures.spare c.in_ok-id.id refl c.requires.deep (record { path = c.args.x.now; depth = c.args.place.depth + 1; summary = None; live = true; next = None; kids = c.push.new.self }) refl refl refl refl
    (c.in_ok-push.ensures.items ∙ ap (λ xs. xs ++ kid (get_or c.args.x.now (c.args.place.depth + 1) 0) (Leaf c.args.slot) ∷ []) c.new-kids.ensures.items) (c.fits-x (c.args.place.depth + 1))
    c.index_mut-above.result.now (read_beside c.args.slots.now c.args.nodes.now.items c.spare.new.nodes.items c.requires.arena c.in_ok-id.ensures.live c.args.place.id.0 c.args.place.depth c.args.element.now c.requires.last c.in_ok-id.id.0 c.in_ok-id.ensures.spare (record { path = c.args.x.now; depth = c.args.place.depth + 1; summary = None; live = true; next = None; kids = c.push.new.self }) c.index_mut-above.result.now c.index_mut-above.ensures.value) c.turn_kid.new.kids c.turn_kid.ensures.rising c.turn_kid.ensures.find

pub returns-clause-cost : goal.returns-clause-cost
returns-clause-cost c =
    let more = beside_cost c.args.slots.now c.args.nodes.now.items c.spare.new.nodes.items c.requires.arena c.in_ok-id.ensures.live c.args.place.id.0 c.args.place.depth c.args.element.now c.requires.last c.in_ok-id.id.0 c.in_ok-id.ensures.spare (record { path = c.args.x.now; depth = c.args.place.depth + 1; summary = None; live = true; next = None; kids = c.push.new.self }) c.index_mut-above.result.now c.index_mut-above.ensures.value c.turn_kid.new.kids in
    let same : stale c.spare.new.nodes.items ≡ stale c.args.nodes.now.items = c.in_ok-id.ensures.cost in
    omega arith
