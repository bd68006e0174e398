use Rattle.std.proofs.Common.{◌≡◌, length, set, sym, ap, ◌∙◌, subst, arith}
use Rattle.al_trie.specs.Kids.{find_kid, Rising, before}
use Rattle.al_trie.proofs.KidLemmas.{kid}
use Rattle.al_trie.proofs.Uses.{within_some, turned, turned_rising}
use Rattle.al_trie.proofs.kids.turn_kid.Goals as goal

pub index_mut-requires : goal.index_mut-requires
index_mut-requires c =
    let w = within_some c.args.byte c.args.kids.now.items c.requires.rising c.requires.some in
    omega (arith, w, c.place_of-at.ensures, ap (before c.args.byte) c.deref.ensures.value, c.deref.ensures.len, ap length c.deref.ensures.value)

pub returns-clause-rising : goal.returns-clause-rising
returns-clause-rising c =
    let place : c.place_of-at.result ≡ before c.args.byte c.args.kids.now.items = c.place_of-at.ensures ∙ ap (before c.args.byte) c.deref.ensures.value in
    subst (λ n. Rising 0 (set c.args.kids.now.items n (kid c.args.byte c.args.to))) (sym place) (turned_rising c.args.byte c.args.to c.args.kids.now.items c.requires.rising c.requires.some)

pub returns-clause-find : goal.returns-clause-find
returns-clause-find c =
    let place : c.place_of-at.result ≡ before c.args.byte c.args.kids.now.items = c.place_of-at.ensures ∙ ap (before c.args.byte) c.deref.ensures.value in
    λ q. ap (λ n. find_kid q (set c.args.kids.now.items n (kid c.args.byte c.args.to))) place ∙ turned c.args.byte c.args.to c.args.kids.now.items q c.requires.rising c.requires.some
