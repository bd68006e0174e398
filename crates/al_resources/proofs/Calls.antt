-- A call of an application with its effects keeps what a body must keep.
use Rattle.std.proofs.Common.{◌≡◌, ◌≤◌, ◌+◌, ℕ, refl, sym, ap, subst, arith, Bool, true, false, not, ◌&&◌, true≢false, if◌then◌else◌, nat_eq, List, [], ◌∷◌, All, Option, Result}
use Rattle.std.proofs.lemmas.List.Elements.{All-head, All-tail}
use Rattle.std.proofs.lemmas.Bool.{or_parts}
use Rattle.std.specs.List.{list_any}
use Rattle.al_base.specs.declared.account.Special.{Special}
use Rattle.al_base.specs.declared.address.Address.{Address}
use Rattle.al_rows.specs.declared.row.AppParams.{AppParams}
use Rattle.al_rows.specs.Rows.{RowMap, no_address}
use Rattle.al_bodies.specs.declared.body.AppCall.{AppCall}
use Rattle.al_bodies.specs.declared.body.Pay.{Pay}
use Rattle.al_bodies.specs.declared.effect.Effect.{Effect}
use Rattle.al_bodies.specs.declared.effect.Effect.TheVariants as effect
use Rattle.al_bodies.specs.declared.effect.Inner.{Inner}
use Rattle.al_bodies.specs.declared.effect.Inner.TheVariants as inner
use Rattle.al_txn.specs.Form.{creates, is_misplaced}
use Rattle.al_overlay.specs.declared.rule.Rule.{Rule}
use Rattle.al_overlay.specs.Accounts.{same_address}
use Rattle.al_moves.specs.Pay.{paid}
use Rattle.al_moves.specs.Resources.{app_account}
use Rattle.al_resources.specs.Assets.{transferred}
use Rattle.al_bodies.specs.Ranges.{EffectInRange}
use Rattle.al_resources.specs.Effects.{app_created, called, called_with, effect_done, effects_done, inner_done, inner_sent}
use Rattle.al_resources.specs.Kept.{AreAppsApart, CallsAreSound, Ends, IsGood, Kept, MayPay}
use Rattle.al_resources.proofs.Applications.{created_kept, local_set_kept, made_given, made_then, opted_kept, opted_out_kept, removed_kept, state_set_kept}
use Rattle.al_resources.proofs.BoxRows.{box_put_kept, box_removed_kept}
use Rattle.al_resources.proofs.Payments.{kept_more, payments_are_sound}
use Rattle.al_resources.proofs.Soundness.{assets_are_sound}
use Rattle.al_resources.proofs.Steps.{ends_then, some_more}

-- ---- transactions of the application's own account

module _ (level : ℕ) (special : Option Special) (start : RowMap) (counter : ℕ) where
  -- what keeps rows sound as none of the transactions keeps them at the same count
  at_once : (due : Result RowMap Rule) → Ends (Kept level special start (counter + 0)) due → Ends (Kept level special start counter) due
  at_once due h = let same : counter + 0 ≡ counter = omega arith in subst (λ c. Ends (Kept level special start c) due) same h

  -- an application's account is neither sink nor pool
  may_pay : (id : ℕ) → id ≤ counter → AreAppsApart special counter → (p : Pay) → MayPay special (app_account id) p
  may_pay id low apart p = some_more (λ s. (same_address (app_account id) s.sink ≡ false) × (same_address (app_account id) s.pool ≡ false)) (λ s. (same_address (app_account id) s.pool ≡ false) × (same_address p.close no_address ≡ false → same_address (app_account id) s.sink ≡ false)) special
      (λ s h. (h.1, λ _. h.0)) (apart id low)

  inner_kept : (id : ℕ) → id ≤ counter → AreAppsApart special counter → (i : Inner) (m : RowMap) → Kept level special start counter m → Ends (Kept level special start counter) (inner_done level (app_account id) i m)
  inner_kept id low apart (inner.Pay p) m k = at_once (paid level (app_account id) p m) (payments_are_sound.paid level special start counter 0 (app_account id) p (may_pay id low apart p) m k)
  inner_kept id low apart (inner.Move t) m k = at_once (transferred (app_account id) t m) (assets_are_sound.transferred level special start counter 0 (app_account id) t m k)

  sent_kept : AreAppsApart special counter → (id : ℕ) (i : Inner) (m : RowMap) → Kept level special start counter m → Ends (Kept level special start counter) (inner_sent level id i m)
  unfolding inner_sent
  sent_kept apart id i m k = made_then (Kept level special start counter) id m (λ a. inner_done level (app_account id) i m)
      (λ a is. inner_kept id (made_given counter id m k.rows.resources a is) apart i m k)

  -- ---- effects that create no application

  effect_kept : AreAppsApart special counter → (who : Address) (id : ℕ) (e : Effect) → creates e ≡ false → EffectInRange e → (m : RowMap) → Kept level special start counter m → Ends (Kept level special start counter) (effect_done level who id e m)
  effect_kept apart who id (effect.Create gu gs lu ls pages state) none fits m k = absurd (true≢false none)
  effect_kept apart who id (effect.SetState state) none fits m k = state_set_kept level special start counter id state fits m k
  effect_kept apart who id effect.Remove none fits m k = removed_kept level special start counter id m k
  effect_kept apart who id (effect.OptIn state) none fits m k = opted_kept level special start counter who id state fits m k
  effect_kept apart who id (effect.SetLocal whose state) none fits m k = local_set_kept level special start counter whose id state fits m k
  effect_kept apart who id effect.OptOut none fits m k = opted_out_kept level special start counter who id m k
  effect_kept apart who id (effect.PutBox name value) none fits m k = box_put_kept level special start counter id name value fits m k
  effect_kept apart who id (effect.RemoveBox name) none fits m k = box_removed_kept level special start counter id name m k
  effect_kept apart who id (effect.Inner i) none fits m k = sent_kept apart id i m k

  effects_kept : AreAppsApart special counter → (who : Address) (id : ℕ) (es : List Effect) → list_any creates es ≡ false → All EffectInRange es → (m : RowMap) → Kept level special start counter m → Ends (Kept level special start counter) (effects_done level who id es m)
  effects_kept apart who id [] none fits m k = k
  effects_kept apart who id (e ∷ es) none fits m k =
      let parts = or_parts (creates e) (list_any creates es) none in
      ends_then (Kept level special start counter) (Kept level special start counter) (effect_done level who id e m) (λ n. effects_done level who id es n)
      (effect_kept apart who id e parts.0 (All-head EffectInRange e es fits) m k)
      (λ n. effects_kept apart who id es parts.1 (All-tail EffectInRange e es fits) n)

-- ---- the first effect, which may create the application

-- where it creates, no application is called
names_none : (b c : Bool) → (b && not c) ≡ false → b ≡ true → c ≡ true
names_none true true h e = refl
names_none true false h e = absurd (true≢false h)
names_none false c h e = absurd (true≢false (sym e))

called_next : (call : AppCall) (next : ℕ) → nat_eq call.app 0 ≡ true → called call next ≡ next
called_next call next e = ap (λ (b : Bool). if b then next else call.app) e

module _ (level : ℕ) (special : Option Special) (start : RowMap) (counter size : ℕ) (some : 1 ≤ size) (apart : AreAppsApart special (counter + size)) (who : Address) where
  first_kept : (id : ℕ) (e : Effect) → (creates e ≡ true → id ≡ counter + 1) → EffectInRange e → (m : RowMap) → Kept level special start counter m → Ends (Kept level special start (counter + size)) (effect_done level who id e m)
  first_kept id (effect.Create gu gs lu ls pages state) next fits m k =
      let p : AppParams = record { global_uints = gu; global_slices = gs; local_uints = lu; local_slices = ls; extra_pages = pages; state = state } in
      subst (λ i. Ends (Kept level special start (counter + size)) (app_created who i p m)) (sym (next refl)) (created_kept level special start counter size who p some fits m k)
  first_kept id e next fits m k = effect_kept level special start (counter + size) apart who id e refl fits m (kept_more level special start counter size m k)

  done_kept : (call : AppCall) (es : List Effect) → is_misplaced call.app es ≡ false → All EffectInRange es → (m : RowMap) → Kept level special start counter m → Ends (Kept level special start (counter + size)) (effects_done level who (called call (counter + 1)) es m)
  done_kept call [] placed fits m k = kept_more level special start counter size m k
  done_kept call (e ∷ es) placed fits m k =
      let id = called call (counter + 1) in
      let few = or_parts _ _ placed in
      let parts = or_parts _ _ few.0 in
      ends_then (Kept level special start (counter + size)) (Kept level special start (counter + size)) (effect_done level who id e m) (λ n. effects_done level who id es n)
      (first_kept id e (λ h. called_next call (counter + 1) (names_none (creates e) (nat_eq call.app 0) parts.1 h)) (All-head EffectInRange e es fits) m k)
      (λ n. effects_kept level special start (counter + size) apart who id es parts.0 (All-tail EffectInRange e es fits) n)

call_kept : (level : ℕ) (special : Option Special) (start : RowMap) (counter size : ℕ) (who : Address) (call : AppCall) (effects : List Effect) → 1 ≤ size → is_misplaced call.app effects ≡ false → All EffectInRange effects → AreAppsApart special (counter + size)
    → IsGood level special start counter size (called_with level who call effects (counter + 1))
unfolding called_with
call_kept level special start counter size who call effects some placed fits apart m k = done_kept level special start counter size some apart who call effects placed fits m k

pub calls_are_sound : CallsAreSound
calls_are_sound = record { called = call_kept }
