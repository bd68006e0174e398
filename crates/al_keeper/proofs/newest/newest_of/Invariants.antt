use Rattle.std.proofs.Common.{take}
use Rattle.al_keeper.specs.Newest.{Outdates}
use Rattle.al_keeper.proofs.newest.newest_of.Given as goal

abbrev pub invariant-loop-version : goal.invariant-loop-version
invariant-loop-version l = Outdates l.to (take l.version-index l.versions) l.newest
