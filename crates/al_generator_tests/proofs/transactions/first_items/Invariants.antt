-- A block has at most eight transactions.
use Rattle.std.proofs.Common.{◌*◌, ◌≤◌}
use Rattle.al_generator_tests.proofs.transactions.first_items.Given as goal

abbrev pub invariant-loop-block : goal.invariant-loop-block
invariant-loop-block l = l.generator.count ≤ 8 * l.block
