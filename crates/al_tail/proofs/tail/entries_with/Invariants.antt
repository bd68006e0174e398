use Rattle.std.proofs.Common.{◌≡◌, map, take}
use Rattle.al_tail.specs.Past.{entry_of}
use Rattle.al_tail.proofs.tail.entries_with.Given as goal

abbrev pub invariant-loop-place : goal.invariant-loop-place
invariant-loop-place l = l.entries.items ≡ map (λ i. entry_of i.txn) (take l.place l.items)
