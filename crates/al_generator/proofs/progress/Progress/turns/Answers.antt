use Rattle.std.proofs.Common.{arith, ◌≡◌, ◌<◌, ◌≤◌, ◌-◌, ◌+◌}
use Rattle.al_generator.proofs.TurnLemmas.{more_made, more_state, last_made, last_state}
use Rattle.al_generator.proofs.progress.Progress.turns.Goals as goal

pub loop-preserved : goal.loop-preserved
loop-preserved c =
    let inv = c.loop.invariant in
    let more = c.in_ok-turn.ensures in
    let less : c.loop.counter < c.args.n = omega arith in
    let count : c.turn.new.self.count ≤ c.loop.self.count + 2 = c.turn.ensures.count in
    record {
      made = more_made c.args.n c.loop.counter c.loop.out.items c.turn.new.out.items _ c.loop.self c.turn.new.self less more.made more.state inv.made;
      state = more_state c.args.n c.loop.counter _ c.loop.self c.turn.new.self less more.state inv.state;
      count = omega (arith, inv.count, count, less);
      few = omega (arith, inv.few, count);
    }

pub returns : goal.returns
returns c =
    let inv = c.loop.invariant in
    let none : c.args.n - c.loop.counter ≡ 0 = omega arith in
    record {
      made = last_made c.args.n c.loop.counter c.loop.out.items _ c.loop.self none inv.made;
      state = last_state c.args.n c.loop.counter _ c.loop.self none inv.state;
      count = omega (arith, inv.few);
    }
