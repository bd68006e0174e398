use Rattle.std.proofs.Common.{◌≡◌, ◌++◌, take}
use Rattle.al_keeper.proofs.lists.both_levels.Given as goal

abbrev pub invariant-loop-level : goal.invariant-loop-level
invariant-loop-level l = l.out ≡ l.levels ++ take l.level-index l.more
