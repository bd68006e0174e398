use Rattle.std.proofs.Common.{◌≡◌}
use Rattle.al_base.specs.declared.key.Key.{Key}
use Rattle.al_base.specs.Keys.{key_cmp}
use Rattle.al_keeper.specs.Rooms.{live_at}
use Rattle.al_keeper.proofs.rows.sweep_rows.Given as goal

abbrev pub invariant-loop-row : goal.invariant-loop-row
invariant-loop-row l = (q : Key) → live_at key_cmp l.slots.entries q ≡ live_at key_cmp l.fn.slots.entries q
