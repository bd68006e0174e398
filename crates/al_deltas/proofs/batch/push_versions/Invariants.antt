use Rattle.std.proofs.Common.{◌≡◌, ◌++◌, map, take}
use Rattle.al_deltas.specs.Net.{version_of}
use Rattle.al_deltas.proofs.batch.push_versions.Given as goal

abbrev pub invariant-loop-change : goal.invariant-loop-change
invariant-loop-change l = l.history ≡ l.fn.history ++ map (version_of l.round) (take l.change-index l.changes)
