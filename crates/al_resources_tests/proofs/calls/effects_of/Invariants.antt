use Rattle.std.proofs.Common.{All}
use Rattle.al_bodies.specs.Ranges.{EffectInRange}
use Rattle.al_resources_tests.proofs.calls.effects_of.Given as goal

abbrev pub invariant-loop-step : goal.invariant-loop-step
invariant-loop-step l = All EffectInRange l.effects
