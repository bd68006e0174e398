-- Each body keeps what a body must keep.
use Rattle.std.proofs.Common.{◌≡◌, refl, sym, subst, ℕ, ◌+◌, ◌≤◌, All, List, Option, Result, Ok, Err, arith, sum_by}
use Rattle.al_base.specs.declared.account.Special.{Special}
use Rattle.al_base.specs.declared.address.Address.{Address}
use Rattle.al_rows.specs.Rows.{RowMap, account}
use Rattle.al_bodies.specs.declared.body.Body.{Body}
use Rattle.al_bodies.specs.declared.body.Body.TheVariants as body
use Rattle.al_bodies.specs.declared.body.KeyReg.{KeyReg}
use Rattle.al_bodies.specs.declared.effect.Effect.{Effect}
use Rattle.al_txn.specs.declared.chain.Chain.{Chain}
use Rattle.al_overlay.specs.declared.rule.Rule.{Rule}
use Rattle.al_overlay.specs.Accounts.{earned}
use Rattle.al_moves.specs.Keys.{keyed}
use Rattle.al_moves.proofs.Keyed.{key_rule_other, keys_are_fair}
use Rattle.al_resources.specs.Assets.{configured}
use Rattle.al_bodies.specs.Ranges.{EffectInRange}
use Rattle.al_resources.specs.Effects.{called_with}
use Rattle.al_resources.specs.Kept.{AreAppsApart, Ends, IsGood, Kept}
use Rattle.al_resources.proofs.Calls.{calls_are_sound}
use Rattle.al_resources.proofs.Payments.{calm_kept, kept_more, payments_are_sound}
use Rattle.al_resources.proofs.Soundness.{assets_are_sound}
use Rattle.al_bodies.specs.Effect.{inner_in}
use Rattle.al_eval.specs.Groups.{size_of}
use Rattle.al_eval.specs.Body.{Context, IsNumbered, done_by}
use Rattle.al_eval.proofs.Registers.{keys_calm}
use Rattle.al_eval.proofs.Wells.{IsWatched, IsWell, may_pay}

-- what else holds of the rows after a step
pub ends_also : (P Q : RowMap → Type 0) (due : Result RowMap Rule) → Ends P due → ((n : RowMap) → due ≡ Ok n → Q n) → Ends (λ n. P n × Q n) due
ends_also P Q (Ok n) h g = (h, g n refl)
ends_also P Q (Err r) h g = h

-- ---- registrations of keys

-- where no rewards of the sender are pending
keyed_ends : (level round : ℕ) (watched : Option Special) (who : Address) (k : KeyReg) (start : RowMap) (counter size : ℕ) (m : RowMap) → earned level (account m who) ≡ 0 → Kept level watched start counter m
    → Ends (Kept level watched start (counter + size)) (keyed round who k m)
keyed_ends level round watched who k start counter size m none kept = by_due (keyed round who k m) refl
  where
    by_due : (due : Result RowMap Rule) → keyed round who k m ≡ due → Ends (Kept level watched start (counter + size)) due
    by_due (Ok n) e =
        kept_more level watched start counter size n
        (calm_kept level watched start counter m n (keys_are_fair.registration_money level round who k m n none e) (keys_calm level watched who m n (keys_are_fair.registration round who k m n e)) kept)
    by_due (Err r) e = key_rule_other r (keys_are_fair.refusal round who k m r e)

-- ---- the dispatch

one_more : (n : ℕ) → 1 ≤ 1 + n
one_more n = omega arith

module _ (c : Chain) (watched : Option Special) (is : IsWatched c watched) (x : Context) (start : RowMap) (counter : ℕ) (next : x.next ≡ counter + 1) (ranged : All EffectInRange x.item.effects) (apart : AreAppsApart watched (counter + size_of x.item)) where
  abbrev who : Address
  who = x.item.txn.sender

  abbrev size : ℕ
  size = size_of x.item

  abbrev effects : List Effect
  effects = x.item.effects

  pub body_good : (b : Body) → IsWell c who effects b → IsNumbered b → (m : RowMap) → earned x.level (account m who) ≡ 0 → Kept x.level watched start counter m → Ends (Kept x.level watched start (counter + size)) (done_by b x m)
  body_good (body.Pay p) well fits m none = payments_are_sound.paid x.level watched start counter size who p (may_pay c watched is who effects p well) m
  body_good (body.KeyReg k) well fits m none = keyed_ends x.level x.round watched who k start counter size m none
  body_good (body.Config a) well fits m none =
      subst (λ n. IsGood x.level watched start counter size (configured who a n)) (sym next) (assets_are_sound.configured x.level watched start counter size who a (one_more (sum_by inner_in effects)) fits) m
  body_good (body.Move t) well fits m none = assets_are_sound.transferred x.level watched start counter size who t m
  body_good (body.Freeze f) well fits m none = assets_are_sound.frozen x.level watched start counter size who f m
  body_good (body.App a) well fits m none =
      subst (λ n. IsGood x.level watched start counter size (called_with x.level who a effects n)) (sym next)
      (calls_are_sound.called x.level watched start counter size who a effects (one_more (sum_by inner_in effects)) well.placed ranged apart) m
