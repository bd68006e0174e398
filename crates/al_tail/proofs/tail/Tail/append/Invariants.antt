use Rattle.std.proofs.Common.{◌≡◌, ◌++◌, take}
use Rattle.al_tail.proofs.tail.Tail.append.Given as goal

abbrev pub invariant-loop-count : goal.invariant-loop-count
invariant-loop-count l = l.self ≡ l.fn.self ++ take l.count l.entries
