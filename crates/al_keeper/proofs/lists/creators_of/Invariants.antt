use Rattle.std.proofs.Common.{◌≡◌, map, take}
use Rattle.al_tables.specs.Tables.{creator_pair}
use Rattle.al_keeper.proofs.lists.creators_of.Given as goal

abbrev pub invariant-loop-change : goal.invariant-loop-change
invariant-loop-change l = l.out.items ≡ map creator_pair (take l.change-index l.changes)
