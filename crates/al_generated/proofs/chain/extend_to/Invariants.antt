-- The chain is made so far.
use Rattle.std.proofs.Common.{◌≤◌, ℕ}
use Rattle.al_generated.specs.Making.{IsMade}
use Rattle.al_generated.proofs.chain.extend_to.Given as goal

abbrev pub invariant-loop : goal.invariant-loop
invariant-loop l = record {
  made : (number n : ℕ) → IsMade number n l.fn.states l.fn.generator → n ≤ l.round → IsMade number l.counter l.states l.generator;
  within : l.counter ≤ l.round;
}
