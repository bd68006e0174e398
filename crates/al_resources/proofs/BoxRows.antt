-- Boxes that are put and removed keep what a body must keep.
use Rattle.std.proofs.Common.{◌≡◌, ◌≤◌, ◌+◌, ℕ, refl, sym, ap, ◌∙◌, subst, arith, List, length, false, Option, Some, None, Result, Ok, Err}
use Rattle.std.specs.FinMap.{get}
use Rattle.al_base.specs.declared.account.Special.{Special}
use Rattle.al_base.specs.declared.account.Status.TheVariants.{NotParticipating}
use Rattle.al_base.specs.declared.address.Address.{Address}
use Rattle.al_base.specs.declared.key.Key.{Key}
use Rattle.al_base.specs.declared.key.Key.TheVariants as key
use Rattle.al_base.specs.declared.name.BoxName.{BoxName}
use Rattle.al_rewards.specs.Pending.{is_apart}
use Rattle.al_rows.specs.declared.account.AccountRow.{AccountRow}
use Rattle.al_rows.specs.declared.row.BoxRow.{BoxRow}
use Rattle.al_rows.specs.declared.row.Row.{Row}
use Rattle.al_rows.specs.declared.row.Row.TheVariants as row
use Rattle.al_rows.specs.Finite.{set_at, total, weight}
use Rattle.al_rows.specs.Rows.{RowMap, account, account_in, is_zero}
use Rattle.al_rows.proofs.Keys.{keys_total, exact_keys}
use Rattle.al_rows.proofs.Maps.{total-set_at}
use Rattle.al_overlay.specs.declared.rule.Rule.{Rule}
use Rattle.al_overlay.specs.Rules.{then_do}
use Rattle.al_overlay.specs.Work.{nonzero}
use Rattle.al_overlay.proofs.Overlays.{get-set}
use Rattle.al_moves.specs.Money.{money, worth}
use Rattle.al_moves.specs.Resources.{CountsAgree, app_account, counts_at, put_box, put_counted, put_over, recount}
use Rattle.al_moves.proofs.Follows.{counts_follow}
use Rattle.al_resources.specs.Effects.{box_gone, box_put, box_removed}
use Rattle.al_resources.specs.Kept.{Ends, Kept}
use Rattle.al_resources.specs.Sound.{FieldsInRange, ResourcesAgree, SoundRows, holding_of, issued_of}
use Rattle.al_resources.proofs.Applications.{made_then}
use Rattle.al_resources.proofs.Recounts.{Alike, AllInRange, IsForOthers, at_set, is_row, none_some, recount_alike}
use Rattle.al_resources.proofs.Steps.{some_more}

-- ---- what a box row weighs

abbrev each : ℕ → Key → Row → ℕ
each level k r = worth level r

worthless : (level id : ℕ) (name : BoxName) (o : Option Row) → ((r : Row) → o ≡ Some r → FieldsInRange (key.Box id name) r) → weight (each level) (key.Box id name) o ≡ 0
worthless level id name None h = refl
worthless level id name (Some (row.Account r)) h = absurd (h (row.Account r) refl)
worthless level id name (Some (row.Asset a)) h = refl
worthless level id name (Some (row.App a)) h = refl
worthless level id name (Some (row.Box b)) h = refl

-- what weighs no box
box_weighs : (w : Key → Row → ℕ) (id : ℕ) (name : BoxName) → ((r : Row) → w (key.Box id name) r ≡ 0) → (o : Option Row) → weight w (key.Box id name) o ≡ 0
box_weighs w id name h None = refl
box_weighs w id name h (Some r) = h r

-- ---- a box stands or goes where the counts of its account have moved

module _ (level : ℕ) (special : Option Special) (start : RowMap) (counter id : ℕ) (name : BoxName) (o : Option Row) (fits : (r : Row) → o ≡ Some r → FieldsInRange (key.Box id name) r) (m mid : RowMap)
    (alike : Alike level m mid) (agree : (b : Address) → CountsAgree (set_at mid (key.Box id name) o) b) where
  resource_stays : (who : Address) (i : ℕ) → get (set_at mid (key.Box id name) o) (key.Resource who i) ≡ get m (key.Resource who i)
  resource_stays who i = get-set mid (key.Box id name) o (key.Resource who i) ∙ alike.resources who i

  account_stays : (who : Address) → account (set_at mid (key.Box id name) o) who ≡ account mid who
  account_stays who = ap account_in (get-set mid (key.Box id name) o (key.Account who))

  sum_stays : (w : Key → Row → ℕ) → IsForOthers w → ((r : Row) → w (key.Box id name) r ≡ 0) → total w (set_at mid (key.Box id name) o) ≡ total w m
  sum_stays w others none = omega (arith, total-set_at keys_total exact_keys w mid (key.Box id name) o, box_weighs w id name none o, box_weighs w id name none (get mid (key.Box id name)), alike.sums w others)

  money_stays : AllInRange m → money level (set_at mid (key.Box id name) o) ≡ money level m
  unfolding money
  money_stays all =
      let k = key.Box id name in
      let old : weight (each level) k (get mid k) ≡ 0 = worthless level id name (get mid k) (alike.ranges all k) in
      let new : weight (each level) k o ≡ 0 = worthless level id name o fits in
      let sums : total (each level) (set_at mid k o) + weight (each level) k (get mid k) ≡ total (each level) mid + weight (each level) k o = total-set_at keys_total exact_keys (each level) mid k o in
      let same : total (each level) mid ≡ total (each level) m = alike.same in
      omega (arith, old, new, sums, same)

  resources_stay : ResourcesAgree counter m → ResourcesAgree counter (set_at mid (key.Box id name) o)
  resources_stay h = record {
    given = λ who i r e. h.given who i r (sym (resource_stays who i) ∙ e);
    kinds = λ a b i r s e f. h.kinds a b i r s (sym (resource_stays a i) ∙ e) (sym (resource_stays b i) ∙ f);
    creators = λ a b i r s e f. h.creators a b i r s (sym (resource_stays a i) ∙ e) (sym (resource_stays b i) ∙ f);
  }

  sound_box : SoundRows level counter special m → SoundRows level counter special (set_at mid (key.Box id name) o)
  sound_box h =
      let k = key.Box id name in
      let n = set_at mid k o in
      record {
        money = omega (arith, money_stays h.ranges, h.money);
        bases = λ q s. at_set (λ p. p ≡ Some (row.Account s) → is_apart s.status ≡ false → s.base ≤ level) mid k o q (λ _ is. absurd (fits (row.Account s) is)) (λ _. alike.bases h.bases q s);
        ranges = λ q r. at_set (λ p. p ≡ Some r → FieldsInRange q r) mid k o q (λ e is. subst (λ x. FieldsInRange x r) e (fits r is)) (λ _. alike.ranges h.ranges q r);
        resources = resources_stay h.resources;
        holdings = λ i. sum_stays (holding_of i) (λ _ _. refl) (λ _. refl) ∙ h.holdings i ∙ sym (sum_stays (issued_of i) (λ _ _. refl) (λ _. refl));
        counts = agree;
        sink = some_more (λ s. (account m s.sink).status ≡ NotParticipating) (λ s. (account n s.sink).status ≡ NotParticipating) special (λ s is. ap (λ (r : AccountRow). r.status) (account_stays s.sink) ∙ alike.statuses s.sink ∙ is) h.sink;
        pool = some_more (λ s. (account m s.pool).status ≡ NotParticipating) (λ s. (account n s.pool).status ≡ NotParticipating) special (λ s is. ap (λ (r : AccountRow). r.status) (account_stays s.pool) ∙ alike.statuses s.pool ∙ is) h.pool;
      }

  kept_box : Kept level special start counter m → Kept level special start counter (set_at mid (key.Box id name) o)
  kept_box h =
      let n = set_at mid (key.Box id name) o in
      record {
        rows = sound_box h.rows;
        money = money_stays h.rows.ranges ∙ h.money;
        pool = some_more (λ s. (account start s.pool).balance ≤ (account m s.pool).balance) (λ s. (account start s.pool).balance ≤ (account n s.pool).balance) special
            (λ s is. omega (arith, ap (λ (r : AccountRow). r.balance) (account_stays s.pool), alike.balances s.pool, is)) h.pool;
      }

-- ---- the counts move, and then the box stands or goes

abbrev moved_counts : ℕ → BoxName → Option Row → RowMap → Result RowMap Rule
moved_counts id name o m = recount (app_account id) (counts_at (key.Box id name) (get m (key.Box id name))) (counts_at (key.Box id name) o) m

abbrev with_box : ℕ → BoxName → Option Row → RowMap → Result RowMap Rule
with_box id name o mid = Ok (set_at mid (key.Box id name) o)

box_is : (id : ℕ) (name : BoxName) (now : Option Row) (m : RowMap) → put_box id name now m ≡ then_do (moved_counts id name (nonzero now) m) (with_box id name (nonzero now))
unfolding put_counted put_over
box_is id name now m = refl

put_ends : (level : ℕ) (special : Option Special) (start : RowMap) (counter id : ℕ) (name : BoxName) (now : Option Row) → ((r : Row) → nonzero now ≡ Some r → FieldsInRange (key.Box id name) r)
    → (m : RowMap) → Kept level special start counter m → Ends (Kept level special start counter) (put_box id name now m)
put_ends level special start counter id name now fits m k = subst (Ends (Kept level special start counter)) (sym (box_is id name now m))
    (by_result (moved_counts id name (nonzero now) m) refl (recount_alike level (app_account id) (counts_at (key.Box id name) (get m (key.Box id name))) (counts_at (key.Box id name) (nonzero now)) m))
  where
    by_result : (r : Result RowMap Rule) → moved_counts id name (nonzero now) m ≡ r → Ends (Alike level m) r → Ends (Kept level special start counter) (then_do r (with_box id name (nonzero now)))
    by_result (Ok mid) e h = kept_box level special start counter id name (nonzero now) fits m mid h
        (counts_follow.boxes id name now m (set_at mid (key.Box id name) (nonzero now)) k.rows.counts (box_is id name now m ∙ ap (λ (r : Result RowMap Rule). then_do r (with_box id name (nonzero now))) e)) k
    by_result (Err x) e h = h

-- ---- the effects

box_fits : (id : ℕ) (name : BoxName) (b : BoxRow) → length b.value ≤ 32768 → (r : Row) → nonzero (Some (row.Box b)) ≡ Some r → FieldsInRange (key.Box id name) r
box_fits id name b few r is = subst (FieldsInRange (key.Box id name)) (is_row (is_zero (row.Box b)) (row.Box b) r is) few

pub box_put_kept : (level : ℕ) (special : Option Special) (start : RowMap) (counter : ℕ) (id : ℕ) (name : BoxName) (value : List ℕ) → length value ≤ 32768 → (m : RowMap) → Kept level special start counter m
    → Ends (Kept level special start counter) (box_put id name value m)
unfolding box_put
box_put_kept level special start counter id name value few m k =
    made_then (Kept level special start counter) id m (λ a. put_box id name (Some (row.Box (record { value = value }))) m)
    (λ a is. put_ends level special start counter id name (Some (row.Box (record { value = value }))) (box_fits id name (record { value = value }) few) m k)

gone_kept : (level : ℕ) (special : Option Special) (start : RowMap) (counter : ℕ) (id : ℕ) (name : BoxName) (o : Option Row) (m : RowMap) → Kept level special start counter m
    → Ends (Kept level special start counter) (box_gone id name o m)
gone_kept level special start counter id name None m k = omega arith
gone_kept level special start counter id name (Some r) m k = put_ends level special start counter id name None (λ s is. absurd (none_some s is)) m k

pub box_removed_kept : (level : ℕ) (special : Option Special) (start : RowMap) (counter : ℕ) (id : ℕ) (name : BoxName) → (m : RowMap) → Kept level special start counter m
    → Ends (Kept level special start counter) (box_removed id name m)
unfolding box_removed
box_removed_kept level special start counter id name m k =
    made_then (Kept level special start counter) id m (λ a. box_gone id name (get m (key.Box id name)) m)
    (λ a is. gone_kept level special start counter id name (get m (key.Box id name)) m k)
