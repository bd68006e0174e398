use Rattle.std.proofs.Common.{◌≡◌, ◌++◌, map, drop, length}
use Rattle.al_record.specs.Code.{table_of, put_of, listed}
use Rattle.al_record.proofs.write.listed.Given as goal

abbrev pub invariant-loop-column : goal.invariant-loop-column
invariant-loop-column l = l.out ++ listed (table_of (drop (length l.yielded) l.columns)) (map put_of (drop (length l.yielded) l.contents)) ≡ listed (table_of l.columns) (map put_of l.contents)
