use Rattle.std.proofs.Common.{◌≡◌, ◌<◌, length, sym, ◌∙◌, subst}
use Rattle.al_trie.specs.Arena.{IsArena, IsLast}
use Rattle.al_trie.proofs.Ending.{some_nodes, last_leaf, lent_back}
use Rattle.al_trie.proofs.change.take.Goals as goal

pub mark-place-requires-clause-some : goal.mark-place-requires-clause-some
mark-place-requires-clause-some c = subst (λ ns. 0 < length ns) (sym c.deref_mut.ensures.value) (some_nodes c.args.slots.now.items c.args.nodes.now.items c.requires.arena c.args.slot.0 c.args.element.now c.requires.there)

pub detach-requires-clause-leaf : goal.detach-requires-clause-leaf
detach-requires-clause-leaf c =
    let whole : c.deref_mut-2.result.now ≡ c.mark-place.new.nodes = c.deref_mut-2.ensures.value ∙ lent_back c.args.nodes.now.len c.mark-place.new.nodes _ (c.mark-place.auto.nodes ∙ c.deref_mut.ensures.len) in
    let w : IsArena c.args.slots.now.items c.deref_mut-2.result.now = subst (IsArena c.args.slots.now.items) (sym whole) (subst (λ ss. IsArena ss c.mark-place.new.nodes) c.deref.ensures.value c.mark-place.ensures.arena) in
    let last : IsLast c.deref_mut-2.result.now c.args.element.now c.mark-place.result.id.0 c.mark-place.result.depth = subst (λ ns. IsLast ns c.args.element.now c.mark-place.result.id.0 c.mark-place.result.depth) (sym whole) c.mark-place.ensures.last in
    last_leaf c.args.slots.now.items c.deref_mut-2.result.now w c.args.element.now c.told-element c.requires.different c.mark-place.result.id.0 c.mark-place.result.depth last c.args.slot c.requires.there
