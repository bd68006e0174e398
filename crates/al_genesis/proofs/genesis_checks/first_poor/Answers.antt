use Rattle.std.proofs.Common.{sym, ◌∙◌}
use Rattle.al_genesis.specs.Genesis.{is_poor}
use Rattle.al_genesis.proofs.Places.{any_there, nobody}
use Rattle.al_genesis.proofs.genesis_checks.first_poor.Goals as goal

pub returns-then-is_poor : goal.returns-then-is_poor
returns-then-is_poor c = record {
  within = c.loop-place-test.true;
  before = c.loop-place.invariant;
  there = any_there (is_poor c.args.sink.now c.args.pool.now) nobody c.args.accounts.now c.loop-place.place c.loop-place-test.true (sym c.is_poor.ensures ∙ c.if-is_poor.true);
}
