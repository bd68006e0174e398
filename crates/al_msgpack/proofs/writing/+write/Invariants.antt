use Rattle.std.proofs.Common.{◌≡◌, ◌++◌, drop}
use Rattle.al_msgpack.specs.Spelled.{IsFront, all_spelled, entries_spelled}
use Rattle.al_msgpack.proofs.writing.+write.Given as goal

abbrev pub invariant-write_all-loop-v : goal.invariant-write_all-loop-v
invariant-write_all-loop-v l = record {
  bytes : l.out.items ++ all_spelled (drop l.v-index l.items) ≡ l.fn.out.items ++ all_spelled l.items;
  front : IsFront l.fn.out.items l.out.items;
}

abbrev pub invariant-write_entries-loop-e : goal.invariant-write_entries-loop-e
invariant-write_entries-loop-e l = record {
  bytes : l.out.items ++ entries_spelled (drop l.e-index l.entries) ≡ l.fn.out.items ++ entries_spelled l.entries;
  front : IsFront l.fn.out.items l.out.items;
}
