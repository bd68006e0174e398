use Rattle.std.proofs.Common.{◌≡◌, ◌<◌, ◌+◌, arith, suc, subst}
use Rattle.al_generated.specs.Making.{IsMade}
use Rattle.al_generated.proofs.PointLemmas.{front_at, front_within, still_making}
use Rattle.al_generated.proofs.chain.extend_to.Goals as goal

pub loop-init : goal.loop-init
loop-init c = record {
  made = λ number n made le. front_at number n c.front-front.result c.args.round c.args.states.now c.args.generator.now made le c.requires.few c.front-front.ensures.front;
  within = front_within c.front-front.result c.args.round c.args.states.now c.args.generator.now c.requires.made c.requires.few c.front-front.ensures.front;
}

pub extend-requires-clause-made : goal.extend-requires-clause-made
extend-requires-clause-made c = still_making c.args.states.now c.loop.states c.args.generator.now c.loop.generator c.loop.counter c.args.round c.requires.made c.loop.invariant.made (omega arith) c.requires.few

pub loop-preserved : goal.loop-preserved
loop-preserved c =
    let few = c.requires.few in
    let less : c.loop.counter < c.args.round = omega arith in
    let one : suc c.loop.counter ≡ c.loop.counter + 1 = omega arith in
    record {
      made = λ number n made le. subst (λ k. IsMade number k c.extend.new.states c.extend.new.generator) one (c.in_ok-extend.ensures.made number c.loop.counter (c.loop.invariant.made number n made le) (omega (arith, few, less)));
      within = omega (arith, less);
    }

pub returns-clause-made : goal.returns-clause-made
returns-clause-made c number n made le =
    let within = c.loop.invariant.within in
    let all : c.loop.counter ≡ c.args.round = omega (arith, within) in
    subst (λ k. IsMade number k c.loop.states c.loop.generator) all (c.loop.invariant.made number n made le)
