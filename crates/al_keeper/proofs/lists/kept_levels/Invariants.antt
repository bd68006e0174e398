use Rattle.std.proofs.Common.{◌≡◌, take}
use Rattle.al_tables.specs.Tables.{kept_levels}
use Rattle.al_keeper.proofs.lists.kept_levels.Given as goal

abbrev pub invariant-loop-level : goal.invariant-loop-level
invariant-loop-level l = l.out ≡ kept_levels l.to (take l.level-index l.levels)
