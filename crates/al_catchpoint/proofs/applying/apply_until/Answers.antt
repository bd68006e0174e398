use Rattle.std.proofs.Common.{arith}
use Rattle.al_states.specs.Keeping.{held}
use Rattle.al_catchpoint.proofs.Takings.{next_bound, next_shorter, takes_next}
use Rattle.al_catchpoint.proofs.applying.apply_until.Goals as goal

pub loop-states-smaller : goal.loop-states-smaller
loop-states-smaller c = next_shorter (held c.loop-states.states) (held c.apply_first.new.states) c.loop-states.rest.now c.in_ok-rest.rest.now c.in_ok-rest.ensures.applied

pub loop-states-preserved : goal.loop-states-preserved
loop-states-preserved c = record {
  states = c.in_ok-rest.ensures.states;
  takes = takes_next (held c.args.states.now) (held c.loop-states.states) (held c.apply_first.new.states) c.args.bytes.now c.loop-states.rest.now c.in_ok-rest.rest.now c.loop-states.invariant.takes c.in_ok-rest.ensures.applied;
  bound = next_bound (held c.args.states.now) (held c.loop-states.states) (held c.apply_first.new.states) c.loop-states.rest.now c.in_ok-rest.rest.now c.args.until (omega (arith, c.front.ensures.front, c.if-front-until.true)) c.in_ok-rest.ensures.applied;
  short = omega (arith, c.loop-states.invariant.short, next_shorter (held c.loop-states.states) (held c.apply_first.new.states) c.loop-states.rest.now c.in_ok-rest.rest.now c.in_ok-rest.ensures.applied);
}
