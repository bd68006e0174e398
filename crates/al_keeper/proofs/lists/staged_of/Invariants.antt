use Rattle.std.proofs.Common.{◌≡◌, map, take}
use Rattle.al_tables.specs.Tables.{staged_of}
use Rattle.al_keeper.proofs.lists.staged_of.Given as goal

abbrev pub invariant-loop-row : goal.invariant-loop-row
invariant-loop-row l = l.out.items ≡ map staged_of (take l.row-index l.rows)
