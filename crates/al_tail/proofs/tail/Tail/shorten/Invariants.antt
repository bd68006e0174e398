use Rattle.std.proofs.Common.{◌≡◌, ◌-◌, length, take}
use Rattle.al_tail.proofs.tail.Tail.shorten.Given as goal

abbrev pub invariant-loop-taken : goal.invariant-loop-taken
invariant-loop-taken l = l.self ≡ take (length l.fn.self - l._taken) l.fn.self
