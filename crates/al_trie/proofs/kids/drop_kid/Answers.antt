use Rattle.std.proofs.Common.{◌≡◌, length, remove, sym, ap, ◌∙◌, subst, arith}
use Rattle.al_trie.specs.Kids.{find_kid, Rising, before}
use Rattle.al_trie.proofs.Uses.{within_some, dropped}
use Rattle.al_trie.proofs.KidLemmas.{Rising-drop}
use Rattle.al_trie.proofs.kids.drop_kid.Goals as goal

pub remove-kid-requires : goal.remove-kid-requires
remove-kid-requires c =
    let w = within_some c.args.byte c.args.kids.now.items c.requires.rising c.requires.some in
    omega (arith, w, c.place_of-at.ensures, ap (before c.args.byte) c.deref.ensures.value, c.deref.ensures.len, ap length c.deref.ensures.value)

pub returns-clause-rising : goal.returns-clause-rising
returns-clause-rising c =
    let place : c.place_of-at.result ≡ before c.args.byte c.args.kids.now.items = c.place_of-at.ensures ∙ ap (before c.args.byte) c.deref.ensures.value in
    subst (Rising 0) (sym (c.remove-kid.ensures.items ∙ ap (remove c.args.kids.now.items) place)) (Rising-drop c.args.byte 0 c.args.kids.now.items c.requires.rising)

pub returns-clause-find : goal.returns-clause-find
returns-clause-find c =
    let place : c.place_of-at.result ≡ before c.args.byte c.args.kids.now.items = c.place_of-at.ensures ∙ ap (before c.args.byte) c.deref.ensures.value in
    λ q. ap (find_kid q) (c.remove-kid.ensures.items ∙ ap (remove c.args.kids.now.items) place) ∙ dropped c.args.byte c.args.kids.now.items q c.requires.rising c.requires.some
