use Rattle.std.proofs.Common.{◌≡◌, true, drop}
use Rattle.al_overlay.specs.Work.{IsFixed}
use Rattle.al_resources.specs.Effects.{EffectsAskOne, effects_done}
use Rattle.al_resources.proofs.effects.do_effects.Given as goal

abbrev pub invariant-loop-effect : goal.invariant-loop-effect
invariant-loop-effect g l = record {
  fixed : IsFixed g.V.RowView.tells l.fn.work l.work;
  start : g.V.RowView.tells ≡ true → l.work.start ≡ l.fn.work.start;
  rest : g.V.RowView.tells ≡ true → EffectsAskOne l.fn.work.block l.id l.effects → effects_done l.fn.work.level l.who l.id (drop l.effect-index l.effects) l.work.now ≡ effects_done l.fn.work.level l.who l.id l.effects l.fn.work.now;
}
