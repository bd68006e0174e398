use Rattle.std.proofs.Common.{rules, ◌+◌, drop}
use Rattle.std.proofs.lemmas.Result.{err_from_is_err_and}
use Rattle.al_resources.specs.Effects.{effects_done}
use Rattle.al_resources.proofs.Rests.{after_front, asks_at, at_front, stopped_first}
use Rattle.al_resources.proofs.effects.do_effects.Goals as goal

pub returns-in_err-do_effect : goal.returns-in_err-do_effect
returns-in_err-do_effect g c = let q = err_from_is_err_and c.from_residual.result c.from_residual.ensures.1 in rw (q.1, q.2) (record {
  fixed = search rules;
  gives = λ t asks.
      let old = c.args.work.now in
      let who = c.args.who.now in
      let id = c.args.id in
      let effects = c.args.effects.now in
      let p = c.loop-effect in
      let e = c.effect-item.result in
      let due = effects_done old.level who id effects old.now in
      let one = asks_at old.block p.work.block id effects p.effect-index e (p.invariant.fixed.block t) asks (search rules) (search rules) in
      let all = at_front old.level p.work.level who id effects p.effect-index e p.work.now due p.invariant.fixed.level (search rules) (search rules) (p.invariant.rest t asks) in
      stopped_first p.work.level who id e (drop (p.effect-index + 1) effects) p.work.now c.do_effect.new.work.now c.in_err-do_effect.field-0.0 due all (c.in_err-do_effect.ensures.gives t one);
  starts = search rules;
  cause = search rules;
})

pub loop-effect-preserved : goal.loop-effect-preserved
loop-effect-preserved g c = record {
  fixed = search rules;
  start = search rules;
  rest = λ t asks.
      let old = c.args.work.now in
      let who = c.args.who.now in
      let id = c.args.id in
      let effects = c.args.effects.now in
      let p = c.loop-effect in
      let e = c.effect-item.result in
      let due = effects_done old.level who id effects old.now in
      let one = asks_at old.block p.work.block id effects p.effect-index e (p.invariant.fixed.block t) asks (search rules) (search rules) in
      let all = at_front old.level p.work.level who id effects p.effect-index e p.work.now due p.invariant.fixed.level (search rules) (search rules) (p.invariant.rest t asks) in
      after_front old.level p.work.level who id e (drop (p.effect-index + 1) effects) p.work.now c.do_effect.new.work.now due p.invariant.fixed.level (c.in_ok-do_effect.ensures.gives t one) all;
}
