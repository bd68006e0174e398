-- The counts of accounts follow their rows.
use Rattle.std.proofs.Common.{◌≡◌, ℕ, ◌+◌, ◌-◌, ◌^◌, ◌≤◌, is_some, refl, sym, ap, ◌∙◌, subst, arith, Bool, true, false, ◌&&◌, if◌then◌else◌, cond, nat_eq, nat_le, eqb-true, Option, Some, None, Result, Ok, Err, IfSome, length, List}
use Rattle.std.proofs.lemmas.Bool.{and_parts}
use Rattle.std.proofs.lemmas.List.{length-take}
use Rattle.std.specs.FinMap.{get}
use Rattle.al_base.specs.declared.address.Address.{Address}
use Rattle.al_base.specs.declared.key.Key.{Key}
use Rattle.al_base.specs.declared.key.Key.TheVariants as key
use Rattle.al_base.specs.declared.name.BoxName.{BoxName}
use Rattle.al_base.specs.Name.{name_of}
use Rattle.al_rows.specs.declared.account.AccountRow.{AccountRow}
use Rattle.al_rows.specs.declared.row.AppParams.{AppParams}
use Rattle.al_rows.specs.declared.row.AppRow.{AppRow}
use Rattle.al_rows.specs.declared.row.AssetRow.{AssetRow}
use Rattle.al_rows.specs.declared.row.BoxRow.{BoxRow}
use Rattle.al_rows.specs.declared.row.Local.{Local}
use Rattle.al_rows.specs.declared.row.Row.{Row}
use Rattle.al_rows.specs.declared.row.Row.TheVariants as row
use Rattle.al_rows.specs.Finite.{set_at, total, weight}
use Rattle.al_rows.specs.Rows.{InRange, IsKept, LocalInRange, ParamsInRange, RowMap, account, account_in, is_zero, is_zero_account, no_account, set_account, unless_zero}
use Rattle.al_rows.proofs.Keys.{keys_total, exact_keys}
use Rattle.al_rows.proofs.Maps.{total-set_at}
use Rattle.al_rows.proofs.Sames.{account_true}
use Rattle.al_moves.specs.declared.resource.Counts.{Counts}
use Rattle.al_overlay.specs.declared.rule.Rule.{Rule}
use Rattle.al_overlay.specs.Rules.{of_account, then_do}
use Rattle.al_overlay.specs.Accounts.{same_address}
use Rattle.al_moves.specs.Resources.{AreFew, CountsAgree, CountsFollow, app_account, apps_created_in, apps_opted_in, assets_created_in, assets_held_in, box_bytes_in, box_bytes_of, box_counts, boxes_of, byte_slices_in, counted_at, counts_at, counts_within, extra_pages_in, no_counts, of_local, of_params, one_if, owned, put_box, put_counted, put_counts, put_over, put_resource, recount, recounted, resource_counts, same_counts, uints_in}
use Rattle.al_overlay.specs.Work.{nonzero}
use Rattle.al_moves.proofs.Monies.{account-set, ok_same, same_is, then_ok}
use Rattle.al_overlay.proofs.Overlays.{get-set, same_key}

-- weights under no account's key
abbrev pub IsForOthers : (Key → Row → ℕ) → Type 0
IsForOthers w = (who : Address) (r : Row) → w (key.Account who) r ≡ 0

pub none_weighs : (w : Key → Row → ℕ) → IsForOthers w → (who : Address) (o : Option Row) → weight w (key.Account who) o ≡ 0
none_weighs w h who None = refl
none_weighs w h who (Some r) = h who r

either : (b : Bool) (n : ℕ) → n ≡ 0 → (if b then n else 0) ≡ 0
either true n e = e
either false n e = refl

-- what does not tell a zero row from none, as a count, is the same of an account row that is read back
pub read_back : {X : Type 0} (f : AccountRow → X) → ((b : ℕ) → f (record no_account { base = b }) ≡ f no_account) → (r : AccountRow) → f (account_in (unless_zero (row.Account r))) ≡ f r
unfolding is_zero is_zero_account
read_back f same r = by_test (is_zero (row.Account r)) refl
  where
    by_test : (b : Bool) → is_zero (row.Account r) ≡ b → f (account_in (if b then None else Some (row.Account r))) ≡ f r
    by_test true e = sym (same r.base) ∙ ap f (sym (account_true r (record no_account { base = r.base }) e))
    by_test false e = refl

address_is : (a b : Address) → key.Account a ≡ key.Account b → a ≡ b
address_is a b e = cc

pub same_is_true : (a b : Address) → same_address a b ≡ true → a ≡ b
same_is_true a b e = address_is a b (same_key (key.Account a) (key.Account b) (same_is a b ∙ e))

-- equal counts
same_true : (c d : Counts) → same_counts c d ≡ true → c ≡ d
same_true c d e =
    let p1 = and_parts _ _ e in
    let p2 = and_parts _ _ p1.0 in
    let p3 = and_parts _ _ p2.0 in
    let p4 = and_parts _ _ p3.0 in
    let p5 = and_parts _ _ p4.0 in
    let p6 = and_parts _ _ p5.0 in
    let p7 = and_parts _ _ p6.0 in
    let p8 = and_parts _ _ p7.0 in
    λ i. record {
      assets_held = eqb-true c.assets_held d.assets_held p8.0 i;
      assets_created = eqb-true c.assets_created d.assets_created p8.1 i;
      apps_created = eqb-true c.apps_created d.apps_created p7.1 i;
      apps_opted = eqb-true c.apps_opted d.apps_opted p6.1 i;
      extra_pages = eqb-true c.extra_pages d.extra_pages p5.1 i;
      uints = eqb-true c.uints d.uints p4.1 i;
      byte_slices = eqb-true c.byte_slices d.byte_slices p3.1 i;
      boxes = eqb-true c.boxes d.boxes p2.1 i;
      box_bytes = eqb-true c.box_bytes d.box_bytes p1.1 i;
    }

-- a count of an account and of a row, which move together
record Counted (f : AccountRow → ℕ) (c : Counts → ℕ) : Type 0 where
  base : (b : ℕ) → f (record no_account { base = b }) ≡ f no_account
  moves : (old new : Counts) (r : AccountRow) → f (recounted old new r) ≡ f r + c new - c old

-- ---- the rows where the counts of an account moved

record Moved (who : Address) (old new : Counts) (m mid : RowMap) : Type 0 where
  sums : (w : Key → Row → ℕ) → IsForOthers w → total w mid ≡ total w m
  resources : (a : Address) (id : ℕ) → get mid (key.Resource a id) ≡ get m (key.Resource a id)
  boxes : (app : ℕ) (name : BoxName) → get mid (key.Box app name) ≡ get m (key.Box app name)
  counts : (f : AccountRow → ℕ) (c : Counts → ℕ) → Counted f c → (a : Address) → f (account mid a) ≡ (if same_address who a then f (account m a) + c new - c old else f (account m a))

moved_none : (who : Address) (old new : Counts) (m : RowMap) → old ≡ new → Moved who old new m m
moved_none who old new m same = record {
  sums = λ w h. refl;
  resources = λ a id. refl;
  boxes = λ app name. refl;
  counts = λ f c moves a. by_test f c (same_address who a) a;
}
  where
    by_test : (f : AccountRow → ℕ) (c : Counts → ℕ) (b : Bool) (a : Address) → f (account m a) ≡ (if b then f (account m a) + c new - c old else f (account m a))
    by_test f c true a = omega (arith, ap c same)
    by_test f c false a = refl

moved_set : (who : Address) (old new : Counts) (m : RowMap) → Moved who old new m (set_account m who (recounted old new (account m who)))
moved_set who old new m = record {
  sums = λ w h. omega (arith, total-set_at keys_total exact_keys w m (key.Account who) o, none_weighs w h who o, none_weighs w h who (get m (key.Account who)));
  resources = λ a id. get-set m (key.Account who) o (key.Resource a id);
  boxes = λ app name. get-set m (key.Account who) o (key.Box app name);
  counts = λ f c moves a. ap f (account-set m who a o) ∙ by_test f c moves a (same_address who a) refl;
}
  where
    r : AccountRow
    r = recounted old new (account m who)

    o : Option Row
    o = unless_zero (row.Account r)

    by_test : (f : AccountRow → ℕ) (c : Counts → ℕ) → Counted f c → (a : Address) (b : Bool) → same_address who a ≡ b → f (account_in (cond b o (get m (key.Account a)))) ≡ (if b then f (account m a) + c new - c old else f (account m a))
    by_test f c moves a true e = read_back f moves.base r ∙ moves.moves old new (account m who) ∙ ap (λ x. f (account m x) + c new - c old) (same_is_true who a e)
    by_test f c moves a false e = refl

recount_ok : (who : Address) (old new : Counts) (m mid : RowMap) → recount who old new m ≡ Ok mid → Moved who old new m mid
unfolding recount
recount_ok who old new m mid = by_test (same_counts old new) refl
  where
    put : (b : Bool) → (if b then Ok (set_account m who (recounted old new (account m who))) else Err (of_account 65 who)) ≡ Ok mid → Moved who old new m mid
    put true e = subst (Moved who old new m) (ok_same _ _ e) (moved_set who old new m)
    put false e = absurd (let x : ◌≡◌ {A = Result RowMap Rule} (Err (of_account 65 who)) (Ok mid) = e in cc)

    by_test : (b : Bool) → same_counts old new ≡ b → (if b then Ok m else put_counts m who (recounted old new (account m who))) ≡ Ok mid → Moved who old new m mid
    by_test true same e = subst (Moved who old new m) (ok_same _ _ e) (moved_none who old new m (same_true old new same))
    by_test false same e = put (counts_within (recounted old new (account m who))) e

-- ---- and a row stands under a key

sum_kept : (b : Bool) (sum after count moved x y : ℕ) → after + (if b then y else 0) ≡ sum + (if b then x else 0) → moved ≡ (if b then count + x - y else count) → count ≡ sum → moved ≡ after
sum_kept true sum after count moved x y s m e = omega arith
sum_kept false sum after count moved x y s m e = omega arith

module _ (m mid : RowMap) (k : Key) (now : Option Row) (who : Address) (moved : Moved who (counts_at k (get m k)) (counts_at k now) m mid) (here : get mid k ≡ get m k)
    (apart : (a : Address) → account (set_at mid k now) a ≡ account mid a) where
  kept : (f : AccountRow → ℕ) (w : Address → Key → Row → ℕ) (c : Counts → ℕ) → ((a : Address) → IsForOthers (w a)) → Counted f c
      → ((a : Address) (o : Option Row) → weight (w a) k o ≡ (if same_address who a then c (counts_at k o) else 0))
      → (a : Address) → f (account m a) ≡ total (w a) m → f (account (set_at mid k now) a) ≡ total (w a) (set_at mid k now)
  kept f w c others counted weighs a agree =
      let sums : total (w a) (set_at mid k now) + (if same_address who a then c (counts_at k (get m k)) else 0) ≡ total (w a) m + (if same_address who a then c (counts_at k now) else 0) =
      ap (λ n. total (w a) (set_at mid k now) + n) (sym (ap (weight (w a) k) here ∙ weighs a (get m k)))
      ∙ total-set_at keys_total exact_keys (w a) mid k now
      ∙ ap (λ n. n + weight (w a) k now) (moved.sums (w a) (others a))
      ∙ ap (λ n. total (w a) m + n) (weighs a now) in
      sum_kept (same_address who a) (total (w a) m) (total (w a) (set_at mid k now)) (f (account m a)) _ (c (counts_at k now)) (c (counts_at k (get m k))) sums (ap f (apart a) ∙ moved.counts f c counted a) agree

-- ---- what one row weighs

resource_weighs : (f : Row → ℕ) (c : Counts → ℕ) → c no_counts ≡ 0 → ((r : Row) → c (resource_counts r) ≡ f r) → (who : Address) (id : ℕ) (a : Address) (o : Option Row)
    → weight (owned a f) (key.Resource who id) o ≡ (if same_address who a then c (counts_at (key.Resource who id) o) else 0)
resource_weighs f c none same who id a None = sym (either (same_address who a) (c no_counts) none)
resource_weighs f c none same who id a (Some r) = ap (λ n. if same_address who a then n else 0) (sym (same r))

-- a box is no resource
nothing_weighs : (w : Key → Row → ℕ) (c : Counts → ℕ) (k : Key) (b : Bool) → ((r : Row) → w k r ≡ 0) → c no_counts ≡ 0 → ((r : Row) → c (counted_at k r) ≡ 0) → (o : Option Row) → weight w k o ≡ (if b then c (counts_at k o) else 0)
nothing_weighs w c k b zero none same None = sym (either b (c no_counts) none)
nothing_weighs w c k b zero none same (Some r) = zero r ∙ sym (either b (c (counted_at k r)) (same r))

box_weighs : (app : ℕ) (name : BoxName) (a : Address) (o : Option Row) → weight (boxes_of a) (key.Box app name) o ≡ (if same_address (app_account app) a then (counts_at (key.Box app name) o).boxes else 0)
box_weighs app name a None = sym (either (same_address (app_account app) a) 0 refl)
box_weighs app name a (Some r) = refl

bytes_weigh : (app : ℕ) (name : BoxName) (a : Address) (o : Option Row) → weight (box_bytes_of a) (key.Box app name) o ≡ (if same_address (app_account app) a then (counts_at (key.Box app name) o).box_bytes else 0)
bytes_weigh app name a None = sym (either (same_address (app_account app) a) 0 refl)
bytes_weigh app name a (Some r) = refl

resource_kept : (who : Address) (id : ℕ) (now : Option Row) (m mid : RowMap) → Moved who (counts_at (key.Resource who id) (get m (key.Resource who id))) (counts_at (key.Resource who id) now) m mid
    → ((a : Address) → CountsAgree m a) → (a : Address) → CountsAgree (set_at mid (key.Resource who id) now) a
resource_kept who id now m mid moved agree a =
    let k = key.Resource who id in
    let all = kept m mid k now who moved (moved.resources who id) (λ b. ap account_in (get-set mid k now (key.Account b))) in
    record {
      assets_held = all (λ r. r.assets_held) (λ b. owned b assets_held_in) (λ c. c.assets_held) (λ b who r. refl) (record { base = λ b. refl; moves = λ old new r. refl }) (resource_weighs assets_held_in (λ c. c.assets_held) refl (λ r. refl) who id) a (agree a).assets_held;
      assets_created = all (λ r. r.assets_created) (λ b. owned b assets_created_in) (λ c. c.assets_created) (λ b who r. refl) (record { base = λ b. refl; moves = λ old new r. refl }) (resource_weighs assets_created_in (λ c. c.assets_created) refl (λ r. refl) who id) a (agree a).assets_created;
      apps_created = all (λ r. r.apps_created) (λ b. owned b apps_created_in) (λ c. c.apps_created) (λ b who r. refl) (record { base = λ b. refl; moves = λ old new r. refl }) (resource_weighs apps_created_in (λ c. c.apps_created) refl (λ r. refl) who id) a (agree a).apps_created;
      apps_opted = all (λ r. r.apps_opted) (λ b. owned b apps_opted_in) (λ c. c.apps_opted) (λ b who r. refl) (record { base = λ b. refl; moves = λ old new r. refl }) (resource_weighs apps_opted_in (λ c. c.apps_opted) refl (λ r. refl) who id) a (agree a).apps_opted;
      extra_pages = all (λ r. r.extra_pages) (λ b. owned b extra_pages_in) (λ c. c.extra_pages) (λ b who r. refl) (record { base = λ b. refl; moves = λ old new r. refl }) (resource_weighs extra_pages_in (λ c. c.extra_pages) refl (λ r. refl) who id) a (agree a).extra_pages;
      uints = all (λ r. r.uints) (λ b. owned b uints_in) (λ c. c.uints) (λ b who r. refl) (record { base = λ b. refl; moves = λ old new r. refl }) (resource_weighs uints_in (λ c. c.uints) refl (λ r. refl) who id) a (agree a).uints;
      byte_slices = all (λ r. r.byte_slices) (λ b. owned b byte_slices_in) (λ c. c.byte_slices) (λ b who r. refl) (record { base = λ b. refl; moves = λ old new r. refl }) (resource_weighs byte_slices_in (λ c. c.byte_slices) refl (λ r. refl) who id) a (agree a).byte_slices;
      boxes = all (λ r. r.boxes) boxes_of (λ c. c.boxes) (λ b who r. refl) (record { base = λ b. refl; moves = λ old new r. refl }) (λ b o. nothing_weighs (boxes_of b) (λ c. c.boxes) k (same_address who b) (λ r. refl) refl (λ r. refl) o) a (agree a).boxes;
      box_bytes = all (λ r. r.box_bytes) box_bytes_of (λ c. c.box_bytes) (λ b who r. refl) (record { base = λ b. refl; moves = λ old new r. refl }) (λ b o. nothing_weighs (box_bytes_of b) (λ c. c.box_bytes) k (same_address who b) (λ r. refl) refl (λ r. refl) o) a (agree a).box_bytes;
    }

box_kept : (app : ℕ) (name : BoxName) (now : Option Row) (m mid : RowMap) → Moved (app_account app) (counts_at (key.Box app name) (get m (key.Box app name))) (counts_at (key.Box app name) now) m mid
    → ((a : Address) → CountsAgree m a) → (a : Address) → CountsAgree (set_at mid (key.Box app name) now) a
box_kept app name now m mid moved agree a =
    let k = key.Box app name in
    let who = app_account app in
    let all = kept m mid k now who moved (moved.boxes app name) (λ b. ap account_in (get-set mid k now (key.Account b))) in
    record {
      assets_held = all (λ r. r.assets_held) (λ b. owned b assets_held_in) (λ c. c.assets_held) (λ b who r. refl) (record { base = λ b. refl; moves = λ old new r. refl }) (λ b o. nothing_weighs (owned b assets_held_in) (λ c. c.assets_held) k (same_address who b) (λ r. refl) refl (λ r. refl) o) a (agree a).assets_held;
      assets_created = all (λ r. r.assets_created) (λ b. owned b assets_created_in) (λ c. c.assets_created) (λ b who r. refl) (record { base = λ b. refl; moves = λ old new r. refl }) (λ b o. nothing_weighs (owned b assets_created_in) (λ c. c.assets_created) k (same_address who b) (λ r. refl) refl (λ r. refl) o) a (agree a).assets_created;
      apps_created = all (λ r. r.apps_created) (λ b. owned b apps_created_in) (λ c. c.apps_created) (λ b who r. refl) (record { base = λ b. refl; moves = λ old new r. refl }) (λ b o. nothing_weighs (owned b apps_created_in) (λ c. c.apps_created) k (same_address who b) (λ r. refl) refl (λ r. refl) o) a (agree a).apps_created;
      apps_opted = all (λ r. r.apps_opted) (λ b. owned b apps_opted_in) (λ c. c.apps_opted) (λ b who r. refl) (record { base = λ b. refl; moves = λ old new r. refl }) (λ b o. nothing_weighs (owned b apps_opted_in) (λ c. c.apps_opted) k (same_address who b) (λ r. refl) refl (λ r. refl) o) a (agree a).apps_opted;
      extra_pages = all (λ r. r.extra_pages) (λ b. owned b extra_pages_in) (λ c. c.extra_pages) (λ b who r. refl) (record { base = λ b. refl; moves = λ old new r. refl }) (λ b o. nothing_weighs (owned b extra_pages_in) (λ c. c.extra_pages) k (same_address who b) (λ r. refl) refl (λ r. refl) o) a (agree a).extra_pages;
      uints = all (λ r. r.uints) (λ b. owned b uints_in) (λ c. c.uints) (λ b who r. refl) (record { base = λ b. refl; moves = λ old new r. refl }) (λ b o. nothing_weighs (owned b uints_in) (λ c. c.uints) k (same_address who b) (λ r. refl) refl (λ r. refl) o) a (agree a).uints;
      byte_slices = all (λ r. r.byte_slices) (λ b. owned b byte_slices_in) (λ c. c.byte_slices) (λ b who r. refl) (record { base = λ b. refl; moves = λ old new r. refl }) (λ b o. nothing_weighs (owned b byte_slices_in) (λ c. c.byte_slices) k (same_address who b) (λ r. refl) refl (λ r. refl) o) a (agree a).byte_slices;
      boxes = all (λ r. r.boxes) boxes_of (λ c. c.boxes) (λ b who r. refl) (record { base = λ b. refl; moves = λ old new r. refl }) (box_weighs app name) a (agree a).boxes;
      box_bytes = all (λ r. r.box_bytes) box_bytes_of (λ c. c.box_bytes) (λ b who r. refl) (record { base = λ b. refl; moves = λ old new r. refl }) (bytes_weigh app name) a (agree a).box_bytes;
    }

-- ---- what one row counts is little

no_few : AreFew no_counts
no_few = record { assets_held = omega arith; assets_created = omega arith; apps_created = omega arith; apps_opted = omega arith; extra_pages = omega arith; uints = omega arith; byte_slices = omega arith; boxes = omega arith; box_bytes = omega arith }

one_few : (b : Bool) → one_if b ≤ 2 ^ 16
one_few true = omega arith
one_few false = omega arith

params_few : (f : AppParams → ℕ) (o : Option AppParams) → IfSome o (λ p. f p ≤ 64) → of_params f o ≤ 64
params_few f None h = omega arith
params_few f (Some p) h = h

local_few : (f : Local → ℕ) (o : Option Local) → IfSome o (λ l. f l ≤ 64) → of_local f o ≤ 64
local_few f None h = omega arith
local_few f (Some l) h = h

params_ranged : (f : AppParams → ℕ) → ((p : AppParams) → ParamsInRange (Some p) → f p ≤ 64) → (o : Option AppParams) → ParamsInRange o → IfSome o (λ p. f p ≤ 64)
params_ranged f each None h = tt
params_ranged f each (Some p) h = each p h

local_ranged : (f : Local → ℕ) → ((l : Local) → LocalInRange (Some l) → f l ≤ 64) → (o : Option Local) → LocalInRange o → IfSome o (λ l. f l ≤ 64)
local_ranged f each None h = tt
local_ranged f each (Some l) h = each l h

app_few : (a : AppRow) → ParamsInRange a.params → LocalInRange a.local → AreFew (resource_counts (row.App a))
app_few a p l =
    let pages = params_few (λ p. p.extra_pages) a.params (params_ranged (λ p. p.extra_pages) (λ p h. omega (arith, h.4)) a.params p) in
    let guints = params_few (λ p. p.global_uints) a.params (params_ranged (λ p. p.global_uints) (λ p h. h.0) a.params p) in
    let gslices = params_few (λ p. p.global_slices) a.params (params_ranged (λ p. p.global_slices) (λ p h. h.1) a.params p) in
    let luints = local_few (λ l. l.uints) a.local (local_ranged (λ l. l.uints) (λ l h. h.0) a.local l) in
    let lslices = local_few (λ l. l.slices) a.local (local_ranged (λ l. l.slices) (λ l h. h.1) a.local l) in
    record { assets_held = omega arith; assets_created = omega arith; apps_created = one_few (is_some a.params); apps_opted = one_few (is_some a.local); extra_pages = omega arith; uints = omega arith; byte_slices = omega arith; boxes = omega arith; box_bytes = omega arith }

asset_few : (a : AssetRow) → AreFew (resource_counts (row.Asset a))
asset_few a = record { assets_held = one_few (is_some a.holding); assets_created = one_few (is_some a.params); apps_created = omega arith; apps_opted = omega arith; extra_pages = omega arith; uints = omega arith; byte_slices = omega arith; boxes = omega arith; box_bytes = omega arith }

box_few : (name : BoxName) (b : BoxRow) → length b.value ≤ 32768 → AreFew (box_counts (name_of name) (row.Box b))
box_few name b h =
    let short : length (name_of name) ≤ 64 = omega (arith, length-take name.len name.bytes, name.short) in
    record { assets_held = omega arith; assets_created = omega arith; apps_created = omega arith; apps_opted = omega arith; extra_pages = omega arith; uints = omega arith; byte_slices = omega arith; boxes = omega arith; box_bytes = omega arith }

few_in : (k : Key) (r : Row) → InRange k r → AreFew (counted_at k r)
few_in (key.Account who) r h = no_few
few_in (key.Resource who id) (row.Account r) h = absurd h
few_in (key.Resource who id) (row.Asset a) h = asset_few a
few_in (key.Resource who id) (row.App a) h = app_few a h.1 h.2
few_in (key.Resource who id) (row.Box b) h = absurd h
few_in (key.Box app name) (row.Account r) h = absurd h
few_in (key.Box app name) (row.Asset a) h = absurd h
few_in (key.Box app name) (row.App a) h = absurd h
few_in (key.Box app name) (row.Box b) h = box_few name b h.1

pub few_at : (k : Key) (o : Option Row) → IfSome o (IsKept k) → AreFew (counts_at k o)
few_at k None h = no_few
few_at k (Some r) h = few_in k r h.0

-- ---- the two calls

put_ok : (who : Address) (k : Key) (now : Option Row) (m n : RowMap) → put_counted who k now m ≡ Ok n → (mid : RowMap) × Moved who (counts_at k (get m k)) (counts_at k now) m mid × (set_at mid k now ≡ n)
unfolding put_counted put_over
put_ok who k now m n e =
    let parts = then_ok (recount who (counts_at k (get m k)) (counts_at k now) m) (λ mid. Ok (set_at mid k now)) n e in
    (parts.0, recount_ok who (counts_at k (get m k)) (counts_at k now) m parts.0 parts.1, ok_same _ _ parts.2)

resource_follows : (who : Address) (id : ℕ) (now : Option Row) (m n : RowMap) → ((a : Address) → CountsAgree m a) → put_resource who id now m ≡ Ok n → (a : Address) → CountsAgree n a
resource_follows who id now m n agree e a =
    let put = put_ok who (key.Resource who id) (nonzero now) m n e in
    subst (λ x. CountsAgree x a) put.2 (resource_kept who id (nonzero now) m put.0 put.1 agree a)

box_follows : (app : ℕ) (name : BoxName) (now : Option Row) (m n : RowMap) → ((a : Address) → CountsAgree m a) → put_box app name now m ≡ Ok n → (a : Address) → CountsAgree n a
box_follows app name now m n agree e a =
    let put = put_ok (app_account app) (key.Box app name) (nonzero now) m n e in
    subst (λ x. CountsAgree x a) put.2 (box_kept app name (nonzero now) m put.0 put.1 agree a)

pub counts_follow : CountsFollow
counts_follow = record { resources = resource_follows; boxes = box_follows }
