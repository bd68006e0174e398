use Rattle.std.proofs.Common.{◌≡◌, ◌++◌, map}
use Rattle.al_tables.specs.Tables.{row_of}
use Rattle.al_deltas.proofs.batch.as_rows.Given as goal

abbrev pub invariant-loop-key : goal.invariant-loop-key
invariant-loop-key l = map row_of l.rows ++ l.key-iterator ≡ l.fn.net.entries
