use Rattle.std.proofs.Common.{◌≡◌, ℕ}
use Rattle.std.specs.Ordering.{nat_cmp}
use Rattle.al_keeper.specs.Rooms.{live_at}
use Rattle.al_keeper.proofs.creators.sweep_creators.Given as goal

abbrev pub invariant-loop-change : goal.invariant-loop-change
invariant-loop-change l = (q : ℕ) → live_at nat_cmp l.slots.entries q ≡ live_at nat_cmp l.fn.slots.entries q
