-- Rows of resources and boxes are put, and the counts of their account follow.
use Rattle.std.proofs.Common.{◌≡◌, ◌∙◌, ◌≤◌, ◌+◌, ℕ, refl, sym, ap, subst, arith, Option, Some, None, Bool, true, false, if◌then◌else◌, ◌⊎◌, inl, inr, length, replicate, Result, Ok}
use Rattle.std.specs.FinMap.{get}
use Rattle.al_base.specs.declared.account.Special.{Special}
use Rattle.al_base.specs.declared.address.Address.{Address}
use Rattle.al_base.specs.declared.key.Key.{Key}
use Rattle.al_base.specs.declared.key.Key.TheVariants as key
use Rattle.al_base.specs.Keys.{number_bytes}
use Rattle.al_base.specs.Name.{name_of}
use Rattle.al_generator.specs.Items.{box_name}
use Rattle.al_rows.specs.declared.account.AccountRow.{AccountRow}
use Rattle.al_rows.specs.declared.row.Row.{Row}
use Rattle.al_rows.specs.declared.row.Row.TheVariants as row
use Rattle.al_rows.specs.Finite.{set_at}
use Rattle.al_rows.specs.Rows.{RowMap, account, is_zero, set_account, unless_zero}
use Rattle.al_overlay.specs.declared.rule.Rule.{Rule}
use Rattle.al_overlay.specs.Rules.{then_do}
use Rattle.al_overlay.specs.Accounts.{same_address}
use Rattle.al_moves.specs.declared.resource.Counts.{Counts}
use Rattle.al_moves.specs.Resources.{app_account, counted_at, counts_at, no_counts, put_box, put_counted, put_over, put_resource, recount, recounted, resource_counts}
use Rattle.al_moves.proofs.Monies.{same_is, same_itself}
use Rattle.al_resources.proofs.Recounts.{at_set}
use Rattle.al_resources.proofs.Steadies.{address_is}
use Rattle.al_base.specs.declared.name.BoxName.{BoxName}
use Rattle.al_taken.proofs.Standings.{AllStand, At, Good, IsCalm, IsFew, Most, Passes, Standing, is_app, is_special, is_user, passes_then, row_stands}
use Rattle.al_taken.proofs.Counts.{IsSmall, boxed, counted, good_within, modest_boxed, recount_passes, resource_counted}
use Rattle.al_taken.proofs.AllHere.{away, full}

-- ---- other rows do not count for what accounts have

no_account_key : (a b : Address) (id : ℕ) → key.Resource a id ≡ key.Account b → ⊥
no_account_key a b id e = cc

no_account_box : (app : ℕ) (n : BoxName) (b : Address) → key.Box app n ≡ key.Account b → ⊥
no_account_box app n b e = cc

pub stands_away : (s : Special) (app : Option ℕ) (b : Most) (m : RowMap) (k : Key) (o : Option Row) → ((a : Address) → k ≡ key.Account a → ⊥) → AllStand s app b m → AllStand s app b (set_at m k o)
stands_away s app b m k o apart all a = subst (Standing (is_user a) (is_special s a) b (is_app app a)) (sym (away m k o (key.Account a) (apart a))) (all a)

-- ---- the account of an application is paid

pub set_paid : (s : Special) (b : Most) (m : RowMap) (app : ℕ) (r : AccountRow) → IsFew b → Good (is_user (app_account app)) (is_special s (app_account app)) b r → AllStand s None b m → AllStand s (Some app) b (set_account m (app_account app) r)
set_paid s b m app r few g all a =
    let to = app_account app in
    at_set (Standing (is_user a) (is_special s a) b (same_address to a)) m (key.Account to) (unless_zero (row.Account r)) (key.Account a)
    (λ e. subst (λ (x : Address). Standing (is_user x) (is_special s x) b (same_address to x) (unless_zero (row.Account r))) (address_is to a e)
    (row_stands (is_user to) (is_special s to) b (same_address to to) r few g (is_zero (row.Account r)) refl))
    (λ off. subst (λ (t : Bool). Standing (is_user a) (is_special s a) b t (get m (key.Account a))) (sym (sym (same_is to a) ∙ off)) (all a))

-- ---- a resource row

module _ (s : Special) (app : Option ℕ) (Q : RowMap → Type 0) (calm : IsCalm Q) where
  pub resource_put : (P : RowMap → Type 0) (b : Most) (who : Address) (id : ℕ) (r : Row) (m : RowMap) → is_zero r ≡ false → IsSmall (resource_counts r) → is_user who ≡ true → IsFew (counted b) → At s app Q calm b m
      → ((n : RowMap) → AllStand s app (counted b) (set_at n (key.Resource who id) (Some r)) → Q n → P (set_at n (key.Resource who id) (Some r))) → Passes P (put_resource who id (Some r) m)
  unfolding put_counted put_over
  resource_put P b who id r m some small is few h next =
      let k = key.Resource who id in
      subst (λ (z : Bool). Passes P (then_do (recount who (counts_at k (get m k)) (counts_at k (if z then None else Some r)) m) (λ n. Ok (set_at n k (if z then None else Some r))))) (sym some)
      (passes_then (At s app Q calm (counted b)) P (recount who (counts_at k (get m k)) (resource_counts r) m) (λ n. Ok (set_at n k (Some r)))
      (resource_counted s app Q calm b who (counts_at k (get m k)) (resource_counts r) m is few small h)
      (λ n g. next n (stands_away s app (counted b) n k (Some r) (λ a. no_account_key who a id) g.0) g.1))

-- ---- a box

abbrev one_box : Counts
one_box = record no_counts { boxes = 1; box_bytes = 40 }

name_length : (i : ℕ) → length (name_of (box_name i)) ≡ 8
unfolding number_bytes
name_length i = refl

box_counted : (app i : ℕ) → counted_at (key.Box app (box_name i)) full ≡ one_box
box_counted app i = ap (λ n. record no_counts { boxes = 1; box_bytes = n + length {A = ℕ} (replicate 32 42) }) (name_length i)

-- the account with a box more
good_boxed : (user special : Bool) (b : Most) (m : RowMap) (who : Address) → special ≡ false → Standing user special b true (get m (key.Account who)) → Good user special (boxed b) (recounted no_counts one_box (account m who))
good_boxed true special b m who off h = record {
  counts = modest_boxed b.count b.boxes no_counts one_box (account m who) refl refl refl refl refl refl refl refl refl h.counts;
  active = h.active;
  money = h.money;
}
good_boxed false true b m who off h = tt
good_boxed false false b m who off h = (modest_boxed 0 b.boxes no_counts one_box (account m who) refl refl refl refl refl refl refl refl refl h.counts, by_there h.there)
  where
    by_there : ((get m (key.Account who) ≡ None) × (true ≡ false)) ⊎ (1000000 ≤ (account m who).balance) → 1000000 ≤ (account m who).balance
    by_there (inl p) = absurd (let x : true ≡ false = p.1 in cc)
    by_there (inr more) = more

recount_same : (who : Address) (m : RowMap) → recount who one_box one_box m ≡ Ok m
unfolding recount
recount_same who m = refl

module _ (s : Special) (app : ℕ) (Q : RowMap → Type 0) (calm : IsCalm Q) where
  abbrev who : Address
  who = app_account app

  box_key_apart : (i : ℕ) (a : Address) → key.Box app (box_name i) ≡ key.Account a → ⊥
  box_key_apart i a e = no_account_box app (box_name i) a e

  new_counted : (b : Most) (m : RowMap) → is_special s who ≡ false → IsFew (boxed b) → At s (Some app) Q calm b m → Passes (At s (Some app) Q calm (boxed b)) (recount who no_counts one_box m)
  new_counted b m off few h =
      let paid : is_app (Some app) who ≡ true = same_itself who in
      let good = good_boxed (is_user who) (is_special s who) b m who off (subst (λ (t : Bool). Standing (is_user who) (is_special s who) b t (get m (key.Account who))) paid (h.0 who)) in
      recount_passes s (Some app) Q calm b (boxed b) who no_counts one_box m (record { count = omega arith; spent = omega arith; boxes = omega arith }) few
      (good_within (is_user who) (is_special s who) (boxed b) (recounted no_counts one_box (account m who)) off few good) good h

  -- what holds of the rows once the box stands: with one box more, or with as many as before where it was there
  pub box_put_passes : (P : RowMap → Type 0) (b : Most) (i : ℕ) (m : RowMap) → is_special s who ≡ false → (get m (key.Box app (box_name i)) ≡ None → IsFew (boxed b)) → At s (Some app) Q calm b m
      → ((r : Row) → get m (key.Box app (box_name i)) ≡ Some r → r ≡ full)
      → (get m (key.Box app (box_name i)) ≡ None → (n : RowMap) → AllStand s (Some app) (boxed b) (set_at n (key.Box app (box_name i)) (Some full)) → Q n → P (set_at n (key.Box app (box_name i)) (Some full)))
      → (AllStand s (Some app) b (set_at m (key.Box app (box_name i)) (Some full)) → P (set_at m (key.Box app (box_name i)) (Some full)))
      → Passes P (put_box app (box_name i) (Some full) m)
  unfolding put_counted put_over is_zero
  box_put_passes P b i m off few h fulls new old = by_there (get m k) refl
    where
      k : Key
      k = key.Box app (box_name i)

      by_there : (o : Option Row) → get m k ≡ o → Passes P (then_do (recount who (counts_at k o) (counted_at k full) m) (λ n. Ok (set_at n k (Some full))))
      by_there None e =
          subst (λ (c : Counts). Passes P (then_do (recount who no_counts c m) (λ n. Ok (set_at n k (Some full))))) (sym (box_counted app i))
          (passes_then (At s (Some app) Q calm (boxed b)) P (recount who no_counts one_box m) (λ n. Ok (set_at n k (Some full))) (new_counted b m off (few e) h)
          (λ n g. new e n (stands_away s (Some app) (boxed b) n k (Some full) (box_key_apart i) g.0) g.1))
      by_there (Some r) e =
          subst (λ (x : Row). Passes P (then_do (recount who (counted_at k x) (counted_at k full) m) (λ n. Ok (set_at n k (Some full))))) (sym (fulls r e))
          (subst (λ (c : Counts). Passes P (then_do (recount who c c m) (λ n. Ok (set_at n k (Some full))))) (sym (box_counted app i))
          (subst (λ (x : Result RowMap Rule). Passes P (then_do x (λ n. Ok (set_at n k (Some full))))) (sym (recount_same who m))
          (old (stands_away s (Some app) b m k (Some full) (box_key_apart i) h.0))))
