use Rattle.std.proofs.Common.{subst}
use Rattle.al_trie.specs.Arena.{IsSpare}
use Rattle.al_trie.proofs.arena.spare.Goals as goal

pub returns-in-Some-freed-clause-spare : goal.returns-in-Some-freed-clause-spare
returns-in-Some-freed-clause-spare c = subst (λ ns. IsSpare ns c.in-Some.first.0) c.as_slice.ensures.value c.in-Some-freed.ensures
