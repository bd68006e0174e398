use Rattle.std.proofs.Common.{◌≡◌, ◌++◌, drop}
use Rattle.al_bodies.specs.Kept.{kept}
use Rattle.al_bodies.proofs.call_fields.kept.Given as goal

abbrev pub invariant-loop-e : goal.invariant-loop-e
invariant-loop-e l = l.out ++ kept (drop l.e-index l.entries) ≡ kept l.entries
