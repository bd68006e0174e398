use Rattle.std.proofs.Common.{◌≡◌, map, take}
use Rattle.al_deltas.specs.Net.{level_of}
use Rattle.al_deltas.proofs.batch.levels_of.Given as goal

abbrev pub invariant-loop-delta : goal.invariant-loop-delta
invariant-loop-delta l = l.levels ≡ map level_of (take l.delta-index l.deltas)
