use Rattle.std.proofs.Common.{◌≡◌, ◌++◌, map}
use Rattle.al_tables.specs.Tables.{creator_pair}
use Rattle.al_deltas.proofs.batch.as_creators.Given as goal

abbrev pub invariant-loop-id : goal.invariant-loop-id
invariant-loop-id l = map creator_pair l.creators ++ l.id-iterator ≡ l.fn.net.entries
