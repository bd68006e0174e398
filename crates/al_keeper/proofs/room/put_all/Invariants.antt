use Rattle.std.proofs.Common.{◌≡◌, IsSome, All, length}
use Rattle.std.specs.BTreeMap.{is_at}
use Rattle.std.specs.Map.{lookup}
use Rattle.al_rows.specs.Finite.{or_below}
use Rattle.al_keeper.specs.Rooms.{live_at, slot_at}
use Rattle.al_keeper.proofs.room.put_all.Given as goal

abbrev pub invariant-loop-change : goal.invariant-loop-change
invariant-loop-change g l = record {
  room : All (λ c. IsSome (slot_at g.K.Ord.cmp l.map.entries c.0)) l.changes.items;
  same : (q : _) → or_below (lookup (is_at (g.K.Ord.cmp q)) l.changes.items) (live_at g.K.Ord.cmp l.map.entries q) ≡ or_below (lookup (is_at (g.K.Ord.cmp q)) l.fn.changes.items) (live_at g.K.Ord.cmp l.fn.map.entries q);
}

abbrev pub decreases-loop-change : goal.decreases-loop-change
decreases-loop-change g l = length l.changes.items
