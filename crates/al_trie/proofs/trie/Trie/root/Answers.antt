use Rattle.std.proofs.Common.{◌≡◌, length, [], sym, ap, ◌∙◌, subst, arith}
use Rattle.std.proofs.lemmas.Bool.{eqb-true, eqb-false}
use Rattle.al_trie.specs.Root.{through, node, root_at}
use Rattle.al_trie.specs.Slots.{full}
use Rattle.al_trie.specs.Arena.{HasHeight, stale}
use Rattle.al_trie.specs.Tries.{Tried, root}
use Rattle.al_trie.proofs.Ending.{no_root, top_height, same_root, none_stale, lent_back}
use Rattle.al_trie.proofs.trie.Trie.root.Goals as goal

pub returns-then-is_empty-clause-root : goal.returns-then-is_empty-clause-root
returns-then-is_empty-clause-root g c =
    no_root c.self.inside.slots.items c.self.inside.nodes.items c.self.invariant.arena c.self.invariant.different (sym c.self.inside.nodes.ok.0 ∙ eqb-true c.self.inside.nodes.len 0 (sym c.is_empty.ensures ∙ c.if-is_empty.true))
    ∙ ap (λ (t : Tried). root t.elements) c.self.view_is

pub refresh-requires-clause-node : goal.refresh-requires-clause-node
refresh-requires-clause-node g c =
    let some = eqb-false c.self.inside.nodes.len 0 (sym c.is_empty.ensures ∙ c.if-is_empty.false) in
    let long = c.self.inside.nodes.ok.0 in
    subst (λ ns. HasHeight ns 0 36) (sym c.deref_mut.ensures.value) (top_height c.self.inside.slots.items c.self.inside.nodes.items c.self.invariant.arena (omega (arith, some, long)))

pub returns-clause-root : goal.returns-clause-root
returns-clause-root g c =
    c.root_from.ensures
    ∙ ap (λ ss. root_at (through (full ss) []) (node (through (full ss)) 36 [])) c.deref-2.ensures.value
    ∙ same_root c.self.inside.slots.items c.self.inside.nodes.items c.self.invariant.arena c.self.invariant.different
    ∙ ap (λ (t : Tried). root t.elements) c.self.view_is

pub returns-clause-fresh : goal.returns-clause-fresh
returns-clause-fresh g c =
    let some = eqb-false c.self.inside.nodes.len 0 (sym c.is_empty.ensures ∙ c.if-is_empty.false) in
    let long : length c.refresh.new.nodes ≡ c.self.inside.nodes.len = c.refresh.auto.nodes ∙ c.deref_mut.ensures.len in
    ap stale (lent_back c.self.inside.nodes.len c.refresh.new.nodes _ long)
    ∙ none_stale c.deref.result.now c.refresh.new.nodes c.refresh.ensures.arena (omega (arith, some, long)) c.in_ok-summary.summary c.in_ok-summary.ensures.summary
