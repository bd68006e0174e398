use Rattle.std.proofs.Common.{All, take}
use Rattle.al_eval.specs.Body.{IsNumbered}
use Rattle.al_eval.proofs.numbers.numbers_fit.Given as goal

abbrev pub invariant-loop-item : goal.invariant-loop-item
invariant-loop-item l = All (λ i. IsNumbered i.txn.body) (take l.item-index l.items)
