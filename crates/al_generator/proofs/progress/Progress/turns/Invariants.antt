-- What is left of the turns gives what is left to make.
use Rattle.std.proofs.Common.{◌≡◌, ◌+◌, ◌*◌, ◌-◌, ◌<◌, ◌≤◌, ◌^◌, ◌++◌}
use Rattle.al_generator.specs.Turns.{turns}
use Rattle.al_generator.proofs.progress.Progress.turns.Given as goal

abbrev pub invariant-loop : goal.invariant-loop
invariant-loop l = record {
  made : l.out.items ++ (turns (l.n - l.counter) l.self).0 ≡ l.fn.out.items ++ (turns l.n l.fn.self).0;
  state : (turns (l.n - l.counter) l.self).1 ≡ (turns l.n l.fn.self).1;
  count : l.self.count + 2 * (l.n - l.counter) < 2 ^ 64;
  few : l.self.count ≤ l.fn.self.count + 2 * l.counter;
}
