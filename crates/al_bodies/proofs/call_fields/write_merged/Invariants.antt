use Rattle.std.proofs.Common.{◌≡◌, ◌++◌, map, drop, length}
use Rattle.al_msgpack.specs.Spelled.{IsFront, entries_spelled}
use Rattle.al_record.specs.Code.{table_of, put_of, listed}
use Rattle.al_bodies.specs.Kept.{merged}
use Rattle.al_bodies.proofs.call_fields.write_merged.Given as goal

abbrev pub invariant-loop-column : goal.invariant-loop-column
invariant-loop-column l = record {
  bytes : l.out.items ++ entries_spelled (merged l.rest (listed (table_of (drop (length l.yielded) l.columns)) (map put_of (drop (length l.yielded) l.contents)))) ≡ l.fn.out.items ++ entries_spelled (merged l.kept (listed (table_of l.columns) (map put_of l.contents)));
  front : IsFront l.fn.out.items l.out.items;
}
