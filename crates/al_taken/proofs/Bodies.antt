-- What each kind of a generated transaction does, once its fee was given.
use Rattle.std.proofs.Common.{◌≡◌, ◌∙◌, ◌≤◌, ◌+◌, ◌*◌, ℕ, refl, sym, subst, arith, Option, Some, Bool, true, false, not, ◌&&◌, if◌then◌else◌, true≢false, nat_eq, nat_lt, Ok, Err, le-ltb}
use Rattle.al_base.specs.declared.account.Special.{Special}
use Rattle.al_base.specs.declared.account.Status.TheVariants.{Offline}
use Rattle.al_base.specs.declared.address.Address.{Address}
use Rattle.al_generator.specs.Items.{asset_of, creation, offline, online, payment}
use Rattle.al_rewards.specs.Pending.{is_apart}
use Rattle.al_rows.specs.declared.account.AccountRow.{AccountRow}
use Rattle.al_rows.specs.declared.row.Row.{Row}
use Rattle.al_rows.specs.declared.row.Row.TheVariants as row
use Rattle.al_rows.specs.Rows.{RowMap, account, is_zero, no_address, set_account}
use Rattle.al_overlay.specs.Rules.{plain_rule, then_do}
use Rattle.al_overlay.specs.Accounts.{moved, same_address}
use Rattle.al_moves.specs.Keys.{keyed, with_keys, without_keys}
use Rattle.al_moves.specs.Pay.{paid, paid_amount, paid_close}
use Rattle.al_moves.specs.Resources.{resource_counts}
use Rattle.al_resources.specs.Assets.{configured, created}
use Rattle.al_resources.proofs.Steadies.{counts_of}
use Rattle.al_taken.proofs.Standings.{AllStand, At, IsFew, Most, Passes, all_more, is_user, moved_passes, passes_then, rekeys, rich_of, spend}
use Rattle.al_taken.proofs.Counts.{IsSmall, counted}
use Rattle.al_taken.proofs.AllHere.{AllHere, Known, boxes_most, all_here_asset, all_here_calm, all_here_more, used}
use Rattle.al_taken.proofs.Puts.{resource_put}

-- the bounds behind the transactions so far
abbrev pub most : Known → ℕ → Most
most k boxes = record { count = k.count; spent = 1001000 * k.count; boxes = boxes }

-- the rows behind the transactions so far
pub record Fits (s : Special) (k : Known) (m : RowMap) : Type 0 where
  pub boxes : ℕ
  pub stands : AllStand s k.app (most k boxes) m
  pub all_here : AllHere k boxes m

-- a transaction more
abbrev pub later : Known → Known
later k = record k { count = k.count + 1 }

pub few_at : (k : Known) (b : Most) → k.count ≤ 800000 → b.count ≤ k.count → b.spent ≤ 1001000 * k.count → b.boxes ≤ 16 → IsFew b
few_at k b few c p x = record { money = omega arith; boxed = x }

module _ (s : Special) (k : Known) (boxes : ℕ) (few : k.count + 1 ≤ 800000) where
  -- the bounds once the fee was given
  abbrev pub charged : Most
  charged = spend (most k boxes) 1000

  abbrev pub Ready : RowMap → Type 0
  Ready m = At s k.app (AllHere k boxes) (all_here_calm k boxes) charged m

  fits_as : (b : Most) (app : Option ℕ) (n : RowMap) → b.count ≤ k.count + 1 → b.spent ≤ 1001000 * (k.count + 1) → b.boxes ≤ boxes → k.app ≡ app → At s k.app (AllHere k boxes) (all_here_calm k boxes) b n → Fits s (record k { count = k.count + 1; app = app }) n
  fits_as b app n c p x same h = record {
    boxes = boxes;
    stands = all_more s app b (most (later k) boxes) n (record { count = c; spent = p; boxes = x }) (subst (λ (o : Option ℕ). AllStand s o b n) same h.0);
    all_here = all_here_more k app boxes n (subst (λ (o : Option ℕ). boxes ≤ used o n) same h.1.used) h.1;
  }

  pub fits_ready : (m : RowMap) → Ready m → Fits s (later k) m
  fits_ready m h = fits_as charged k.app m (omega arith) (omega arith) (omega arith) refl h

  few_charged : (m : RowMap) → Ready m → (amount : ℕ) → amount ≤ 1000000 → IsFew (spend charged amount)
  few_charged m h amount l = few_at (later k) (spend charged amount) few (omega arith) (omega arith) (boxes_most k boxes m h.1)

  -- a payment to a user
  pub pay_user : (level : ℕ) (who receiver : Address) (amount : ℕ) (m : RowMap) → is_user who ≡ true → is_user receiver ≡ true → amount ≤ 1000000 → k.app ≡ k.made → Ready m → Passes (Fits s (record k { count = k.count + 1; app = k.made })) (paid level who (payment receiver amount) m)
  unfolding paid paid_amount paid_close
  pay_user level who receiver amount m is to little same h = by_test (nat_eq amount 0 && same_address receiver no_address)
    where
      P : RowMap → Type 0
      P = Fits s (record k { count = k.count + 1; app = k.made })

      by_test : (t : Bool) → Passes P (then_do (if t then Ok m else moved level who receiver amount m) (λ n. Ok n))
      by_test true = fits_as charged k.made m (omega arith) (omega arith) (omega arith) same h
      by_test false = passes_then (At s k.app (AllHere k boxes) (all_here_calm k boxes) (spend charged amount)) P (moved level who receiver amount m) (λ n. Ok n)
          (moved_passes s k.app (AllHere k boxes) (all_here_calm k boxes) charged level who receiver amount m is (few_charged m h amount little) (λ off. absurd (true≢false (sym to ∙ off))) h)
          (λ n g. fits_as (spend charged amount) k.made n (omega arith) (omega (arith, little)) (omega arith) same g)

  -- keys, or none
  rekeyed_fits : (who : Address) (m : RowMap) (r : AccountRow) → is_user who ≡ true → Ready m → is_apart r.status ≡ false → r.balance ≡ (account m who).balance → counts_of r ≡ counts_of (account m who) → Fits s (later k) (set_account m who r)
  rekeyed_fits who m r is h active same counts =
      fits_ready (set_account m who r) (rekeys s k.app (AllHere k boxes) (all_here_calm k boxes) charged who m r is (few_at (later k) charged few (omega arith) (omega arith) (boxes_most k boxes m h.1)) active same counts h)

  pub go_offline : (round : ℕ) (who : Address) (m : RowMap) → is_user who ≡ true → Ready m → Passes (Fits s (later k)) (keyed round who offline m)
  unfolding keyed
  go_offline round who m is h =
      subst (λ (t : Bool). Passes (Fits s (later k)) (if t then Err (plain_rule 44) else Ok (set_account m who (without_keys Offline (account m who))))) (sym (rich_of s k.app charged m who is h.0).active)
      (rekeyed_fits who m (without_keys Offline (account m who)) is h refl refl refl)

  pub go_online : (round : ℕ) (who : Address) (m : RowMap) → is_user who ≡ true → Ready m → Passes (Fits s (later k)) (keyed round who (online round) m)
  unfolding keyed
  go_online round who m is h =
      subst (λ (t : Bool). Passes (Fits s (later k)) (if t then Err (plain_rule 44) else (if not (nat_lt round (round + 1000)) then Err (plain_rule 45) else if nat_lt (round + 1) round then Err (plain_rule 56) else Ok (set_account m who (with_keys (online round) (account m who)))))) (sym (rich_of s k.app charged m who is h.0).active)
      (by_tests (nat_lt round (round + 1000)) (nat_lt (round + 1) round) (grind arith) (le-ltb (round + 1) round (omega arith)))
    where
      by_tests : (a b : Bool) → a ≡ true → b ≡ false → Passes (Fits s (later k)) (if not a then Err (plain_rule 45) else if b then Err (plain_rule 56) else Ok (set_account m who (with_keys (online round) (account m who))))
      by_tests true false e f = rekeyed_fits who m (with_keys (online round) (account m who)) is h refl refl refl
      by_tests false b e f = absurd (true≢false (sym e))
      by_tests true true e f = absurd (true≢false f)

  -- an asset
  pub create_asset : (who : Address) (m : RowMap) → is_user who ≡ true → Ready m → Passes (Fits s (record k { count = k.count + 1; asset = Some (k.count + 1) })) (configured who (creation who) (k.count + 1) m)
  unfolding configured created is_zero
  create_asset who m is h =
      let r : Row = row.Asset (record { params = Some (asset_of who); holding = Some (record { amount = 1000000; frozen = false }) }) in
      let small : IsSmall (resource_counts r) = record { held = omega arith; created = omega arith; opted = refl; pages = refl; uints = refl; slices = refl; boxed = refl; bytes = refl } in
      resource_put s k.app (AllHere k boxes) (all_here_calm k boxes) (Fits s (record k { count = k.count + 1; asset = Some (k.count + 1) })) charged who (k.count + 1) r m refl small is
      (few_at (later k) (counted charged) few (omega arith) (omega arith) (boxes_most k boxes m h.1)) h
      (λ n all all_here. record {
        boxes = boxes;
        stands = all_more s k.app (counted charged) (most (later k) boxes) _ (record { count = omega arith; spent = omega arith; boxes = omega arith }) all;
        all_here = all_here_asset n who (k.count + 1) r k boxes refl tt refl all_here;
      })
