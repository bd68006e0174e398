-- What is left of the effects of a call, at one of them.
use Rattle.std.proofs.Common.{◌≡◌, ◌∙◌, sym, ap, ap₂, subst, ℕ, suc, ◌+◌, ◌<◌, List, ◌∷◌, drop, length, slice_index_or, Result, Ok, Err, arith}
use Rattle.std.proofs.Math.Seq.{drop-cons}
use Rattle.al_base.specs.declared.address.Address.{Address}
use Rattle.al_bodies.specs.declared.effect.Effect.{Effect}
use Rattle.al_rows.specs.Rows.{RowMap}
use Rattle.al_overlay.specs.declared.rule.Rule.{Rule}
use Rattle.al_overlay.specs.declared.rule.Stop.{Stop}
use Rattle.al_overlay.specs.declared.rule.Stop.TheVariants as stop
use Rattle.al_overlay.specs.Rules.{then_do}
use Rattle.al_overlay.specs.Work.{Gives, HasOneCreator}
use Rattle.al_resources.specs.Effects.{EffectAsksOne, EffectsAskOne, effect_done, effects_done}

-- what is asked of the rows before the block, at one effect
pub asks_at : (m n : RowMap) (id : ℕ) (effects : List Effect) (place : ℕ) (e : Effect) → n ≡ m → EffectsAskOne m id effects → place < length effects → slice_index_or effects place e ≡ e → HasOneCreator n id × EffectAsksOne n e
asks_at m n id effects place e same asks within is = subst (λ k. HasOneCreator k id × EffectAsksOne k e) (sym same) (asks.0, subst (λ (f : Effect). EffectAsksOne m f) is (asks.1 place e within))

-- what is left of the effects begins with the one at this place
rest_at : (effects : List Effect) (place : ℕ) (e : Effect) → place < length effects → slice_index_or effects place e ≡ e → drop place effects ≡ e ∷ drop (place + 1) effects
rest_at effects place e within is = drop-cons effects place e within ∙ ap₂ (λ f fs. f ∷ fs) is (ap (λ n. drop n effects) (let next : suc place ≡ place + 1 = omega arith in next))

-- the same of what is due, at a level that is the one before all effects
pub at_front : (level now : ℕ) (who : Address) (id : ℕ) (effects : List Effect) (place : ℕ) (e : Effect) (m : RowMap) (due : Result RowMap Rule) → now ≡ level → place < length effects → slice_index_or effects place e ≡ e → effects_done level who id (drop place effects) m ≡ due → effects_done now who id (e ∷ drop (place + 1) effects) m ≡ due
at_front level now who id effects place e m due same within is left =
    ap (λ l. effects_done l who id (e ∷ drop (place + 1) effects) m) same
    ∙ sym (ap (λ es. effects_done level who id es m) (rest_at effects place e within is))
    ∙ left

-- the first effect is done, and the others are left
pub after_front : (level now : ℕ) (who : Address) (id : ℕ) (e : Effect) (es : List Effect) (m n : RowMap) (due : Result RowMap Rule) → now ≡ level → effect_done now who id e m ≡ Ok n → effects_done now who id (e ∷ es) m ≡ due → effects_done level who id es n ≡ due
after_front level now who id e es m n due same done all =
    ap (λ l. effects_done l who id es n) (sym same)
    ∙ sym (ap (λ d. then_do d (λ k. effects_done now who id es k)) done)
    ∙ all

-- the first effect stops all, whatever rows are left by then
pub stopped_first : {F : Type 0} (level : ℕ) (who : Address) (id : ℕ) (e : Effect) (es : List Effect) (m n : RowMap) (s : Stop F) (due : Result RowMap Rule) → effects_done level who id (e ∷ es) m ≡ due → Gives {F = F} {T = Unit {0}} (effect_done level who id e m) (Err s) n → Gives {F = F} {T = Unit {0}} due (Err s) n
stopped_first level who id e es m n (stop.Rule r) due all is = sym all ∙ ap (λ d. then_do d (λ k. effects_done level who id es k)) is
stopped_first level who id e es m n (stop.View f) due all is = tt
stopped_first level who id e es m n stop.Memory due all is = tt
