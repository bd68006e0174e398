use Rattle.std.proofs.Common.{◌≡◌, ◌++◌, take}
use Rattle.al_keeper.proofs.lists.both_versions.Given as goal

abbrev pub invariant-loop-version : goal.invariant-loop-version
invariant-loop-version l = l.out ≡ l.versions ++ take l.version-index l.more
