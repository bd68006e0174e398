use Rattle.std.proofs.Common.{◌≡◌, IsSome, All, take}
use Rattle.al_keeper.specs.Rooms.{live_at, slot_at}
use Rattle.al_keeper.proofs.room.make_rooms.Given as goal

abbrev pub invariant-loop-change : goal.invariant-loop-change
invariant-loop-change g l = record {
  same : (q : _) → live_at g.K.Ord.cmp l.map.entries q ≡ live_at g.K.Ord.cmp l.fn.map.entries q;
  room : All (λ c. IsSome (slot_at g.K.Ord.cmp l.map.entries c.0)) (take l.change-index l.changes);
}
