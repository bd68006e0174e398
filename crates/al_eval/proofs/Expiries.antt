-- The accounts that a header lists as expired go offline one after another.
use Rattle.std.proofs.Math.Seq.{drop-cons}
use Rattle.std.proofs.Common.{◌≡◌, ◌∙◌, ◌<◌, refl, sym, ap, subst, arith, ℕ, suc, ◌+◌, List, [], ◌∷◌, drop, get_or, length, Option, Some, None, Result, Ok, Err}
use Rattle.al_base.specs.declared.account.Special.{Special}
use Rattle.al_base.specs.declared.address.Address.{Address}
use Rattle.al_rows.specs.Rows.{RowMap}
use Rattle.al_moves.specs.Keys as keys
use Rattle.al_overlay.specs.Rules.{then_do}
use Rattle.al_moves.proofs.Keyed.{keys_are_fair}
use Rattle.al_resources.specs.Kept.{Kept}
use Rattle.al_resources.proofs.Payments.{calm_kept}
use Rattle.al_eval.specs.Expiry.{all_expired, or_refused}
use Rattle.al_eval.specs.Refusals.{Refusal, expired, IsDue, Verdict, failed, no_memory, refused}
use Rattle.al_eval.proofs.Registers.{keys_calm}

-- the account at a place of the list, and how it comes out
module _ (round : ℕ) (accounts list : List Address) (same : list ≡ accounts) (place : ℕ) (d : Address) (within : place < length list) (m : RowMap) where
  abbrev who : Address
  who = get_or list place d

  at_front : all_expired round place (drop place accounts) m ≡ then_do (or_refused place (keys.expired round who m)) (λ k. all_expired round (place + 1) (drop (place + 1) accounts) k)
  at_front =
      let next : suc place ≡ place + 1 = omega arith in
      let left : drop place accounts ≡ who ∷ drop (place + 1) accounts =
      ap (drop place) (sym same) ∙ drop-cons list place d within ∙ ap (λ n. who ∷ drop n list) next ∙ ap (λ xs. who ∷ drop (place + 1) xs) same in
      ap (λ xs. all_expired round place xs m) left

  -- it goes offline
  pub expired_done : (n : RowMap) → or_refused place (keys.expired round who m) ≡ Ok n → all_expired round (place + 1) (drop (place + 1) accounts) n ≡ all_expired round place (drop place accounts) m
  expired_done n e = sym (at_front ∙ ap (λ o. then_do o (λ k. all_expired round (place + 1) (drop (place + 1) accounts) k)) e)

  -- it is refused
  not_expired : (r : Refusal) → or_refused place (keys.expired round who m) ≡ Err r → all_expired round place (drop place accounts) m ≡ Err r
  not_expired r e = at_front ∙ ap (λ o. then_do o (λ k. all_expired round (place + 1) (drop (place + 1) accounts) k)) e

  pub expired_due : (v : Verdict) → IsDue (or_refused place (keys.expired round who m)) v → IsDue (all_expired round place (drop place accounts) m) v
  expired_due (refused r) e = not_expired r e
  expired_due failed e = tt
  expired_due no_memory e = tt

-- what holds of the refusal at each place, and of all that follows, holds behind them
pub then_expired : (P : Result RowMap Refusal → Type 0) (round place : ℕ) (accounts : List Address) (m : RowMap) (f : RowMap → Result RowMap Refusal)
    → ((at : ℕ) → P (Err (expired at))) → ((n : RowMap) → all_expired round place accounts m ≡ Ok n → P (f n)) → P (then_do (all_expired round place accounts m) f)
then_expired P round place [] m f h g = g m refl
then_expired P round place (who ∷ more) m f h g = by_one (keys.expired round who m) g (λ n. then_expired P round (place + 1) more n f h)
  where
    by_one : (o : Option RowMap) → ((n : RowMap) → then_do (or_refused place o) (λ k. all_expired round (place + 1) more k) ≡ Ok n → P (f n))
        → ((k : RowMap) → ((n : RowMap) → all_expired round (place + 1) more k ≡ Ok n → P (f n)) → P (then_do (all_expired round (place + 1) more k) f))
        → P (then_do (then_do (or_refused place o) (λ k. all_expired round (place + 1) more k)) f)
    by_one None g rest = h place
    by_one (Some k) g rest = rest k g

ok_rows : (m n : RowMap) → ◌≡◌ {A = Result RowMap Refusal} (Ok m) (Ok n) → m ≡ n
ok_rows m n e = cc

-- they keep what the transactions of a block keep
pub expired_kept : (level : ℕ) (special : Option Special) (start : RowMap) (counter round place : ℕ) (accounts : List Address) (m n : RowMap) → all_expired round place accounts m ≡ Ok n → Kept level special start counter m → Kept level special start counter n
expired_kept level special start counter round place [] m n e k = subst (Kept level special start counter) (ok_rows m n e) k
expired_kept level special start counter round place (who ∷ more) m n e k = by_one (keys.expired round who m) refl e (λ j. expired_kept level special start counter round (place + 1) more j n)
  where
    by_one : (o : Option RowMap) → keys.expired round who m ≡ o → then_do (or_refused place o) (λ j. all_expired round (place + 1) more j) ≡ Ok n
        → ((j : RowMap) → all_expired round (place + 1) more j ≡ Ok n → Kept level special start counter j → Kept level special start counter n) → Kept level special start counter n
    by_one None is e rest = absurd (let x : ◌≡◌ {A = Result RowMap Refusal} (Err (expired place)) (Ok n) = e in cc)
    by_one (Some j) is e rest =
        rest j e (calm_kept level special start counter m j (keys_are_fair.expiry_money level round who m j is) (keys_calm level special who m j (keys_are_fair.expiry round who m j is)) k)
