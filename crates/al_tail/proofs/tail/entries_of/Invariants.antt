use Rattle.std.proofs.Common.{◌≡◌, map, take}
use Rattle.al_tail.specs.Past.{entry_of}
use Rattle.al_tail.proofs.tail.entries_of.Given as goal

abbrev pub invariant-loop-item : goal.invariant-loop-item
invariant-loop-item l = l.entries.items ≡ map (λ i. entry_of i.txn) (take l.item-index l.items)
