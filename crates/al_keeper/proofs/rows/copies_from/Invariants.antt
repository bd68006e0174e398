use Rattle.std.proofs.Common.{◌≡◌, ◌≤◌, ◌-◌, ◌++◌, map, take, length}
use Rattle.std.specs.BTreeMap.Range.{entries_between}
use Rattle.std.specs.declared.ops.Bound.TheVariants.{Unbounded}
use Rattle.al_base.specs.Keys.{key_cmp}
use Rattle.al_keeper.specs.Rooms.{live}
use Rattle.al_rows.specs.Above.{keyed_of}
use Rattle.al_keeper.proofs.rows.copies_from.Given as goal

abbrev pub invariant-loop-key : goal.invariant-loop-key
invariant-loop-key l = record {
  few : length l.out ≤ l.max;
  same : l.out ++ map keyed_of (take (l.max - length l.out) (live l.key-iterator)) ≡ map keyed_of (take l.max (live (entries_between key_cmp l.fn.from Unbounded l.slots.entries)));
}
