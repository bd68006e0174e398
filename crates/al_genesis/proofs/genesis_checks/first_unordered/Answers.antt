use Rattle.std.proofs.Common.{◌≡◌, ℕ, suc, ◌+◌, true, false, take, sym, ◌∙◌, subst, arith}
use Rattle.al_msgpack.specs.Rising.{rises}
use Rattle.al_genesis.specs.Genesis.{addresses_of}
use Rattle.al_genesis.proofs.Places.{rises_with, nobody}
use Rattle.al_genesis.proofs.genesis_checks.first_unordered.Goals as goal

pub returns-then-not-is_before : goal.returns-then-not-is_before
returns-then-not-is_before c = record {
  within = c.loop-place-test.true;
  before = c.loop-place.invariant;
  there = rises_with nobody c.args.accounts.now c.loop-place.place c.loop-place.auto.place c.loop-place-test.true c.loop-place.invariant false (sym c.if-not-is_before.true ∙ c.is_before.ensures);
}

pub loop-place-preserved : goal.loop-place-preserved
loop-place-preserved c =
    let k : suc c.loop-place.place ≡ c.loop-place.place + 1 = omega arith in
    subst (λ (n : ℕ). rises (addresses_of (take n c.args.accounts.now)) ≡ true) k
    (rises_with nobody c.args.accounts.now c.loop-place.place c.loop-place.auto.place c.loop-place-test.true c.loop-place.invariant true (sym c.if-not-is_before.false ∙ c.is_before.ensures))
