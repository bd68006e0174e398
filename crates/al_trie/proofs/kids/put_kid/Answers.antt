use Rattle.std.proofs.Common.{◌≡◌, insert, sym, ap, ◌∙◌, subst, arith, rules}
use Rattle.al_trie.specs.Kids.{find_kid, Rising, before}
use Rattle.al_trie.proofs.KidLemmas.{kid, find-put, Rising-put, before-le}
use Rattle.al_trie.proofs.kids.put_kid.Goals as goal

pub insert-requires : goal.insert-requires
insert-requires c = omega (arith, before-le c.args.byte c.deref.result.now, c.deref.ensures.len, c.place_of-at.ensures)

pub returns-clause-rising : goal.returns-clause-rising
returns-clause-rising c =
    let place : c.place_of-at.result ≡ before c.args.byte c.args.kids.now.items = c.place_of-at.ensures ∙ ap (before c.args.byte) c.deref.ensures.value in
    subst (Rising 0) (sym (c.in_ok-insert.ensures.items ∙ ap (λ n. insert c.args.kids.now.items n (kid c.args.byte c.args.to)) place))
    (Rising-put c.args.byte 0 c.args.to c.args.kids.now.items c.requires.rising c.requires.none (omega arith) (search rules))

pub returns-clause-ok : goal.returns-clause-ok
returns-clause-ok c =
    let place : c.place_of-at.result ≡ before c.args.byte c.args.kids.now.items = c.place_of-at.ensures ∙ ap (before c.args.byte) c.deref.ensures.value in
    λ q. ap (find_kid q) (c.in_ok-insert.ensures.items ∙ ap (λ n. insert c.args.kids.now.items n (kid c.args.byte c.args.to)) place)
    ∙ find-put c.args.byte 0 c.args.to c.args.kids.now.items q c.requires.rising c.requires.none
