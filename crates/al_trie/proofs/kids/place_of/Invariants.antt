use Rattle.std.proofs.Common.{◌≡◌, ◌+◌, drop}
use Rattle.al_trie.specs.Kids.{before}
use Rattle.al_trie.proofs.kids.place_of.Given as goal

abbrev pub invariant-loop-k : goal.invariant-loop-k
invariant-loop-k l = before l.byte l.kids ≡ l.k + before l.byte (drop l.k l.kids)
