use Rattle.std.proofs.Common.{◌≡◌, take, filter}
use Rattle.al_keeper.specs.Newest.{is_current}
use Rattle.al_keeper.proofs.newest.current.Given as goal

abbrev pub invariant-loop-version : goal.invariant-loop-version
invariant-loop-version l = l.out ≡ filter (is_current l.newest) (take l.version-index l.versions)
