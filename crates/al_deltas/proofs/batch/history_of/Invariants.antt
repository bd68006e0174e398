use Rattle.std.proofs.Common.{◌≡◌, ◌++◌, drop}
use Rattle.al_deltas.specs.Net.{versions_of}
use Rattle.al_deltas.proofs.batch.history_of.Given as goal

abbrev pub invariant-loop-delta : goal.invariant-loop-delta
invariant-loop-delta l = l.history ++ versions_of (drop l.delta-index l.deltas) ≡ versions_of l.deltas
