-- What opt-ins, applications, their boxes and the payment to an application's account do, once the fee was given.
use Rattle.std.proofs.Common.{◌≡◌, ◌≢◌, ◌∙◌, ◌≤◌, ◌<◌, ◌+◌, ◌*◌, ℕ, refl, sym, ap, subst, arith, [], ◌∷◌, Option, Some, None, Bool, true, false, ◌&&◌, if◌then◌else◌, true≢false, is_some, is_none, nat_eq, nat_lt, replicate, Result, Ok, Err, IfSome}
use Rattle.std.specs.FinMap.{get}
use Rattle.al_base.specs.declared.account.Special.{Special}
use Rattle.al_base.specs.declared.address.Address.{Address}
use Rattle.al_base.specs.declared.asset.AssetParams.{AssetParams}
use Rattle.al_base.specs.declared.key.Key.TheVariants as key
use Rattle.al_generator.specs.Items.{box_name, call, opt_in, payment}
use Rattle.al_bodies.specs.declared.effect.Effect.TheVariants as effects
use Rattle.al_rows.specs.declared.account.AccountRow.{AccountRow}
use Rattle.al_rows.specs.declared.row.AppParams.{AppParams}
use Rattle.al_rows.specs.declared.row.Row.{Row}
use Rattle.al_rows.specs.declared.row.Row.TheVariants as row
use Rattle.al_rows.specs.Finite.{set_at}
use Rattle.al_rows.specs.Rows.{RowMap, account, creator_of, has_params, is_zero, set_account, unless_zero}
use Rattle.al_rows.specs.Limits.{max_balance}
use Rattle.al_overlay.specs.declared.rule.Rule.{Rule}
use Rattle.al_overlay.specs.Rules.{of_account, then_do}
use Rattle.al_overlay.specs.Accounts.{credited, give, moved, same_address, take_in}
use Rattle.al_moves.specs.Pay.{paid, paid_amount, paid_close}
use Rattle.al_moves.specs.Resources.{app_account, one_if, put_box, put_resource, resource_counts}
use Rattle.al_resources.specs.Assets.{asset, asset_in, closed_units, issued, issued_by, issued_from, moved_units, opted, opted_in, sent, transferred}
use Rattle.al_resources.specs.Effects.{app, app_created, app_in, box_put, called_with, made, made_by, made_from}
use Rattle.al_resources.specs.declared.app.Made.{Made}
use Rattle.al_resources.specs.declared.asset.Issued.{Issued}
use Rattle.al_resources.proofs.Owings.{IsAsset}
use Rattle.al_resources.proofs.Recounts.{some_same}
use Rattle.al_taken.proofs.Creators.{creator_has, has_creator}
use Rattle.al_taken.proofs.Standings.{AllStand, At, IsCalm, IsFew, Most, Passes, all_more, is_special, is_user, good_taken, give_passes, passes_then, spend}
use Rattle.al_taken.proofs.Counts.{IsSmall, boxed, counted}
use Rattle.al_taken.proofs.AllHere.{AllHere, IsApp, IsHere, Known, away, boxes_most, full, all_here_app, all_here_box, all_here_calm, all_here_more, all_here_over, used, used_most, used_of, used_grows, used_more, no_resource, no_box}
use Rattle.al_taken.proofs.Puts.{box_put_passes, resource_put, set_paid}
use Rattle.al_taken.proofs.Bodies.{Fits, Ready, charged, few_at, fits_ready, later, most}

-- ---- what is there is found

asset_params : (o : Option Row) (r : Row) → o ≡ Some r → has_params r ≡ true → IsAsset r → (p : AssetParams) × ((asset_in o).params ≡ Some p)
asset_params o (row.Account r) e has kind = absurd kind
asset_params o (row.App a) e has kind = absurd kind
asset_params o (row.Box b) e has kind = absurd kind
asset_params o (row.Asset a) e has kind = let h = some_is a.params has in (h.0, ap (λ x. (asset_in x).params) e ∙ h.1)
  where
    some_is : (q : Option AssetParams) → is_some q ≡ true → (p : AssetParams) × (q ≡ Some p)
    some_is None h = absurd (true≢false (sym h))
    some_is (Some p) h = (p, refl)

pub issued_passes : (P : RowMap → Type 0) (id count : ℕ) (m : RowMap) (f : Issued → Result RowMap Rule) → IsHere IsAsset id count m → ((a : Issued) → Passes P (f a)) → Passes P (then_do (issued id m) f)
unfolding issued
issued_passes P id count m f h g = by_creator (creator_of m id) refl
  where
    by_params : (who : Address) (o : Option AssetParams) → (p : AssetParams) × (o ≡ Some p) → Passes P (then_do (issued_by id who o) f)
    by_params who None x = absurd (true≢false (sym (ap is_some x.1)))
    by_params who (Some p) x = g (record { creator = who; params = p })

    by_creator : (o : Option Address) → creator_of m id ≡ o → Passes P (then_do (issued_from id m o) f)
    by_creator None e = absurd (has_creator m id h.owner h.held h.is h.has e)
    by_creator (Some who) e =
        let x = creator_has m id who e in
        by_params who (asset m who id).params (asset_params (get m (key.Resource who id)) x.0 x.1 x.2 (h.kinds who x.0 x.1))

app_params : (o : Option Row) (r : Row) → o ≡ Some r → has_params r ≡ true → IsApp r → (p : AppParams) × ((app_in o).params ≡ Some p)
app_params o (row.Account r) e has kind = absurd kind
app_params o (row.Asset a) e has kind = absurd kind
app_params o (row.Box b) e has kind = absurd kind
app_params o (row.App a) e has kind = let h = some_is a.params has in (h.0, ap (λ x. (app_in x).params) e ∙ h.1)
  where
    some_is : (q : Option AppParams) → is_some q ≡ true → (p : AppParams) × (q ≡ Some p)
    some_is None h = absurd (true≢false (sym h))
    some_is (Some p) h = (p, refl)

pub made_passes : (P : RowMap → Type 0) (id count : ℕ) (m : RowMap) (f : Made → Result RowMap Rule) → IsHere IsApp id count m → ((a : Made) → Passes P (f a)) → Passes P (then_do (made id m) f)
unfolding made
made_passes P id count m f h g = by_creator (creator_of m id) refl
  where
    by_params : (who : Address) (o : Option AppParams) → (p : AppParams) × (o ≡ Some p) → Passes P (then_do (made_by id who o) f)
    by_params who None x = absurd (true≢false (sym (ap is_some x.1)))
    by_params who (Some p) x = g (record { creator = who; params = p })

    by_creator : (o : Option Address) → creator_of m id ≡ o → Passes P (then_do (made_from id m o) f)
    by_creator None e = absurd (has_creator m id h.owner h.held h.is h.has e)
    by_creator (Some who) e =
        let x = creator_has m id who e in
        by_params who (app m who id).params (app_params (get m (key.Resource who id)) x.0 x.1 x.2 (h.kinds who x.0 x.1))

-- ---- steps

here_of : (Kind : Row → Type 0) (o : Option ℕ) (id count : ℕ) (m : RowMap) → o ≡ Some id → IfSome o (λ i. IsHere Kind i count m) → IsHere Kind id count m
here_of Kind None id count m e h = absurd (true≢false (sym (ap is_some e)))
here_of Kind (Some i) id count m e h = subst (λ j. IsHere Kind j count m) (some_same i id e) h

one_small : (A : Type 0) (o : Option A) → one_if (is_some o) ≤ 1
one_small A None = omega arith
one_small A (Some x) = omega arith

-- two kinds have no number in common
kinds_apart : (m : RowMap) (id i count : ℕ) → IsHere IsAsset id count m → IsHere IsApp i count m → id ≢ i
kinds_apart m id i count h g e = by_row h.held (h.kinds h.owner h.held h.is) (subst (λ j. (a : Address) (r : Row) → get m (key.Resource a j) ≡ Some r → IsApp r) (sym e) g.kinds h.owner h.held h.is)
  where
    by_row : (r : Row) → IsAsset r → IsApp r → ⊥
    by_row (row.Account r) a b = a
    by_row (row.Asset r) a b = b
    by_row (row.App r) a b = a
    by_row (row.Box r) a b = a

module _ (s : Special) (k : Known) (boxes : ℕ) (few : k.count + 1 ≤ 800000) where
  -- an account opts in, unless it has
  pub opts : (who : Address) (id : ℕ) (m : RowMap) → is_user who ≡ true → k.asset ≡ Some id → Ready s k boxes few m → Passes (Fits s (later k)) (transferred who (opt_in who id) m)
  unfolding transferred sent opted_in moved_units closed_units opted is_zero
  opts who id m is asked h = by_test (same_address who who && is_none (asset m who id).holding)
    where
      here : IsHere IsAsset id k.count m
      here = here_of IsAsset k.asset id k.count m asked h.1.asset

      P : RowMap → Type 0
      P = Fits s (later k)

      Q : RowMap → Type 0
      Q n = AllHere k boxes n × (get n (key.Resource who id) ≡ get m (key.Resource who id))

      calm : IsCalm Q
      calm n a r h = (all_here_calm k boxes n a r h.0, away n (key.Account a) (unless_zero (row.Account r)) (key.Resource who id) (no_resource a who id) ∙ h.1)

      row_of : Issued → Row
      row_of a = row.Asset (record (asset m who id) { holding = Some (record { amount = 0; frozen = a.params.default_frozen }) })

      none_zero : (p : Option AssetParams) → (is_none p && false) ≡ false
      none_zero None = refl
      none_zero (Some p) = refl

      same_params : (o : Option Row) (old : Row) → o ≡ Some old → IsAsset old → has_params old ≡ true → is_some (asset_in o).params ≡ true
      same_params o old e kind has = let x = asset_params o old e has kind in ap is_some x.1

      puts : (a : Issued) → Passes P (put_resource who id (Some (row_of a)) m)
      puts a =
          let small : IsSmall (resource_counts (row_of a)) = record { held = omega arith; created = one_small AssetParams (asset m who id).params; opted = refl; pages = refl; uints = refl; slices = refl; boxed = refl; bytes = refl } in
          resource_put s k.app Q calm P (charged s k boxes few) who id (row_of a) m (none_zero (asset m who id).params) small is
          (few_at (later k) (counted (charged s k boxes few)) few (omega arith) (omega arith) (boxes_most k boxes m h.1)) (h.0, (h.1, refl))
          (λ n all g. record {
            boxes = boxes;
            stands = all_more s k.app (counted (charged s k boxes few)) (most (later k) boxes) _ (record { count = omega arith; spent = omega arith; boxes = omega arith }) all;
            all_here = all_here_over n who id (row_of a) k boxes here.low asked (λ i e. kinds_apart m id i k.count here (here_of IsApp k.made i k.count m e h.1.made)) tt
                (λ old e has. same_params (get m (key.Resource who id)) old (sym g.1 ∙ e) (here.kinds who old (sym g.1 ∙ e)) has) g.0;
          })

      by_test : (t : Bool) → Passes P (then_do (if t then then_do (issued id m) (λ a. opted who id a m) else Ok m) (λ n. Ok n))
      by_test true = passes_then P P (then_do (issued id m) (λ a. opted who id a m)) (λ n. Ok n) (issued_passes P id k.count m (λ a. opted who id a m) here puts) (λ n g. g)
      by_test false = fits_ready s k boxes few m h

  -- an application
  pub create_app : (level : ℕ) (who : Address) (m : RowMap) → is_user who ≡ true → Ready s k boxes few m → Passes (Fits s (record k { count = k.count + 1; made = Some (k.count + 1) })) (called_with level who (call 0) (effects.Create 0 0 0 0 0 [] ∷ []) (k.count + 1) m)
  unfolding called_with app_created is_zero
  create_app level who m is h =
      let r : Row = row.App (record { params = Some (record { global_uints = 0; global_slices = 0; local_uints = 0; local_slices = 0; extra_pages = 0; state = [] }); local = None }) in
      let small : IsSmall (resource_counts r) = record { held = omega arith; created = omega arith; opted = refl; pages = refl; uints = refl; slices = refl; boxed = refl; bytes = refl } in
      let P : RowMap → Type 0 = Fits s (record k { count = k.count + 1; made = Some (k.count + 1) }) in
      passes_then P P (put_resource who (k.count + 1) (Some r) m) (λ n. Ok n)
      (resource_put s k.app (AllHere k boxes) (all_here_calm k boxes) P (charged s k boxes few) who (k.count + 1) r m refl small is
      (few_at (later k) (counted (charged s k boxes few)) few (omega arith) (omega arith) (boxes_most k boxes m h.1)) h
      (λ n all all_here. record {
        boxes = boxes;
        stands = all_more s k.app (counted (charged s k boxes few)) (most (later k) boxes) _ (record { count = omega arith; spent = omega arith; boxes = omega arith }) all;
        all_here = all_here_app n who (k.count + 1) r k boxes refl tt refl all_here;
      }))
      (λ n g. g)

  -- a box of the application
  pub puts_box : (level : ℕ) (who : Address) (id i : ℕ) (m : RowMap) → i < 16 → k.made ≡ Some id → k.app ≡ Some id → is_special s (app_account id) ≡ false → Ready s k boxes few m
      → Passes (Fits s (later k)) (called_with level who (call id) (effects.PutBox (box_name i) (replicate 32 42) ∷ []) (k.count + 1) m)
  unfolding called_with box_put
  puts_box level who id i m l made_is app_is off h =
      subst (λ (t : Bool). Passes (Fits s (later k)) (then_do (then_do (made (if t then k.count + 1 else id) m) (λ a. put_box (if t then k.count + 1 else id) (box_name i) (Some full) m)) (λ n. Ok n))) (sym some)
      (passes_then P P (then_do (made id m) (λ a. put_box id (box_name i) (Some full) m)) (λ n. Ok n)
      (made_passes P id k.count m (λ a. put_box id (box_name i) (Some full) m) here (λ a. puts)) (λ n g. g))
    where
      P : RowMap → Type 0
      P = Fits s (later k)

      here : IsHere IsApp id k.count m
      here = here_of IsApp k.made id k.count m made_is h.1.made

      nonzero_test : (n : ℕ) → 1 ≤ n → nat_eq n 0 ≡ false
      nonzero_test n l = grind arith

      some : nat_eq id 0 ≡ false
      some = nonzero_test id here.some

      Q : RowMap → Type 0
      Q n = AllHere k boxes n × (get n (key.Box id (box_name i)) ≡ get m (key.Box id (box_name i)))

      calm : IsCalm Q
      calm n a r h = (all_here_calm k boxes n a r h.0, away n (key.Account a) (unless_zero (row.Account r)) (key.Box id (box_name i)) (no_box a id (box_name i)) ∙ h.1)

      ready : AllStand s (Some id) (charged s k boxes few) m
      ready = subst (λ (o : Option ℕ). AllStand s o (charged s k boxes few) m) app_is h.0

      used_at : boxes ≤ used_of id m 16
      used_at = subst (λ (o : Option ℕ). boxes ≤ used o m) app_is h.1.used

      fits : (more : ℕ) (b : Most) (n : RowMap) → b.count ≤ k.count + 1 → b.spent ≤ 1001000 * (k.count + 1) → b.boxes ≤ more → AllStand s (Some id) b n → AllHere k more n → P n
      fits more b n c p x all all_here = record {
        boxes = more;
        stands = all_more s k.app b (most (later k) more) n (record { count = c; spent = p; boxes = x }) (subst (λ (o : Option ℕ). AllStand s o b n) (sym app_is) all);
        all_here = all_here_more k k.app more n all_here.used all_here;
      }

      in_range : get m (key.Box id (box_name i)) ≡ None → boxes + 1 ≤ 16
      in_range none = omega (arith, used_at, used_more m id i 16 l none, used_most id (set_at m (key.Box id (box_name i)) (Some full)) 16)

      new : get m (key.Box id (box_name i)) ≡ None → (n : RowMap) → AllStand s (Some id) (boxed (charged s k boxes few)) (set_at n (key.Box id (box_name i)) (Some full)) → Q n → P (set_at n (key.Box id (box_name i)) (Some full))
      new none n all g = fits (boxes + 1) (boxed (charged s k boxes few)) _ (omega arith) (omega arith) (omega arith) all
          (all_here_box n id i k boxes (boxes + 1) app_is (λ u. omega (arith, u, used_more n id i 16 l (g.1 ∙ none))) g.0)

      old : AllStand s (Some id) (charged s k boxes few) (set_at m (key.Box id (box_name i)) (Some full)) → P (set_at m (key.Box id (box_name i)) (Some full))
      old all = fits boxes (charged s k boxes few) _ (omega arith) (omega arith) (omega arith) all (all_here_box m id i k boxes boxes app_is (λ u. omega (arith, u, used_grows m id i 16)) h.1)

      puts : Passes P (put_box id (box_name i) (Some full) m)
      puts = box_put_passes s id Q calm P (charged s k boxes few) i m off (λ none. few_at (later k) (boxed (charged s k boxes few)) few (omega arith) (omega arith) (in_range none)) (ready, (h.1, refl)) (λ r e. h.1.full id (box_name i) r e) new old

  -- the application's account is paid
  pub pay_app : (level : ℕ) (who : Address) (id : ℕ) (m : RowMap) → is_user who ≡ true → k.made ≡ Some id → k.app ≡ None → Ready s k boxes few m → Passes (Fits s (record k { count = k.count + 1; app = k.made })) (paid level who (payment (app_account id) 1000000) m)
  unfolding paid paid_amount paid_close moved take_in
  pay_app level who id m is made_is none h =
      passes_then P P (then_do (give level who 1000000 m) (λ n. take_in level to 1000000 n)) (λ n. Ok n)
      (passes_then (At s k.app (AllHere k boxes) (all_here_calm k boxes) paid_out) P (give level who 1000000 m) (λ n. take_in level to 1000000 n)
      (give_passes s k.app (AllHere k boxes) (all_here_calm k boxes) (charged s k boxes few) level who 1000000 m is few_paid h) takes)
      (λ n g. g)
    where
      P : RowMap → Type 0
      P = Fits s (record k { count = k.count + 1; app = k.made })

      to : Address
      to = app_account id

      paid_out : Most
      paid_out = spend (charged s k boxes few) 1000000

      few_paid : IsFew (spend (charged s k boxes few) 1000000)
      few_paid = few_at (later k) (spend (charged s k boxes few) 1000000) few (omega arith) (omega arith) (boxes_most k boxes m h.1)

      no_boxes : boxes ≤ 0
      no_boxes = subst (λ (o : Option ℕ). boxes ≤ used o m) none h.1.used

      set_fits : (n : RowMap) (r : AccountRow) → AllStand s (Some id) (spend (charged s k boxes few) 1000000) (set_account n to r) → AllHere k boxes n → P (set_account n to r)
      set_fits n r all all_here = record {
        boxes = boxes;
        stands = all_more s k.made (spend (charged s k boxes few) 1000000) (most (later k) boxes) _ (record { count = omega arith; spent = omega arith; boxes = omega arith }) (subst (λ (o : Option ℕ). AllStand s o (spend (charged s k boxes few) 1000000) (set_account n to r)) (sym made_is) all);
        all_here = all_here_more k k.made boxes (set_account n to r) (omega (arith, no_boxes)) (all_here_calm k boxes n to r all_here);
      }

      -- the account with the amount more
      richer : AccountRow → AccountRow
      richer r = record (credited level r) { balance = (credited level r).balance + 1000000 }

      stands_none : (n : RowMap) → AllStand s k.app (spend (charged s k boxes few) 1000000) n → AllStand s None (spend (charged s k boxes few) 1000000) n
      stands_none n all = subst (λ (o : Option ℕ). AllStand s o (spend (charged s k boxes few) 1000000) n) none all

      set_richer : (n : RowMap) → At s k.app (AllHere k boxes) (all_here_calm k boxes) (spend (charged s k boxes few) 1000000) n → P (set_account n to (richer (account n to)))
      set_richer n g = set_fits n (richer (account n to))
          (set_paid s (spend (charged s k boxes few) 1000000) n id (richer (account n to)) few_paid
          (good_taken (is_user to) (is_special s to) (spend (charged s k boxes few) 1000000) false level 1000000 (get n (key.Account to)) (λ _ _. omega arith) (stands_none n g.0 to)) (stands_none n g.0)) g.1

      takes : (n : RowMap) → At s k.app (AllHere k boxes) (all_here_calm k boxes) (spend (charged s k boxes few) 1000000) n → Passes P (take_in level to 1000000 n)
      takes n g = by_test (nat_lt max_balance (richer (account n to)).balance)
        where
          by_test : (t : Bool) → Passes P (if t then Err (of_account 41 to) else Ok (set_account n to (richer (account n to))))
          by_test true = refl
          by_test false = set_richer n g
