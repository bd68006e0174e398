-- The totals of accounts by status: what they add up to, how they rise, and how they follow the rows.
use Rattle.std.proofs.Common.{◌≡◌, ℕ, ◌+◌, ◌-◌, ◌*◌, ◌/◌, ◌<◌, ◌≤◌, ◌^◌, refl, sym, ap, ap₂, ◌∙◌, subst, List, [], ◌∷◌, map, Option, Some, None, Bool, true, false, cond, if◌then◌else◌, IsSome, IfSome, T, is_eq, is_lt, is_some, arith, mul-zero, mul_comm, true≢false, option_map}
use Rattle.std.specs.Ordering.{eq_by_cmp}
use Rattle.std.specs.Cmp.{eq_by_cmp_equiv}
use Rattle.std.specs.List.{AllByRecursion}
use Rattle.std.specs.List.Sorted.{IsStrictlySortedBy}
use Rattle.std.specs.FinMap.{get, find, is_sorted, same_map}
use Rattle.std.specs.FinMap.Entries.{below_all}
use Rattle.al_base.specs.declared.account.Status.{Status}
use Rattle.al_base.specs.declared.account.Status.TheVariants.{Offline, Online, NotParticipating}
use Rattle.al_base.specs.declared.key.Key.{Key}
use Rattle.al_base.specs.Keys.{key_cmp}
use Rattle.al_rewards.specs.declared.totals.Count.{Count}
use Rattle.al_rewards.specs.declared.totals.Totals.{Totals}
use Rattle.al_rewards.specs.Pending.{is_apart, reward_unit}
use Rattle.al_rewards.specs.Totals.{AreTotals, all_units, and_count, and_share, count_of, earn, plus, raised}
use Rattle.al_rewards.proofs.Exact.{changed}
use Rattle.al_rows.specs.declared.account.AccountRow.{AccountRow}
use Rattle.al_rows.specs.declared.row.Row.{Row}
use Rattle.al_rows.specs.declared.row.Row.TheVariants as row
use Rattle.al_rows.specs.Finite.{or_below, overlaid, set_at, total, weight}
use Rattle.al_rows.specs.Rows.{RowMap, same_status}
use Rattle.al_rows.proofs.Keys.{keys_total, exact_keys}
use Rattle.al_rows.proofs.Maps.{find-lookup, get-overlaid, get-set_at, total-plus, total-same, total-set_at, total-times}
use Rattle.al_overlay.specs.Accounts.{earned, share_of}
use Rattle.al_moves.specs.Money.{IsExact, IsWithin, money, units, worth}
use Rattle.al_moves.specs.Totals.{MoneyIsCounted, RiseIsCounted, count, counts, in_place, money_at, recounted, share_at, units_at, counted_anew}
use Rattle.al_overlay.specs.declared.held.Held.{Held}
use Rattle.al_overlay.specs.Held.{IsWork, at, befores, now_at, nows}
use Rattle.al_moves.proofs.Changes.{each_at}
use Rattle.al_overlay.proofs.Firsts.{all_more, each_found, first_of, less, second_of, sorted, turned_less}
use Rattle.al_moves.proofs.Monies.{pending_apart, worth_raised}
use Rattle.al_overlay.proofs.Overlays.{at-befores, now_changed, nows-ordered, same_key, some-before, told-before}

-- ---- sums that weigh rows

abbrev pub money_by : ℕ → Status → Key → Row → ℕ
money_by level status k r = money_at level status r

abbrev pub units_by : Status → Key → Row → ℕ
units_by status k r = units_at status r

abbrev pub worth_by : ℕ → Key → Row → ℕ
worth_by level k r = worth level r

total_three : (f g h : Key → Row → ℕ) (m : RowMap) → total (λ k r. f k r + g k r + h k r) m ≡ total f m + total g m + total h m
total_three f g h m = total-plus keys_total (λ k r. f k r + g k r) h m ∙ ap (λ n. n + total h m) (total-plus keys_total f g m)

-- no row weighs more, so all together do not
pub total-le : (f g : Key → Row → ℕ) (m : RowMap) → ((k : Key) (r : Row) → f k r ≤ g k r) → total f m ≤ total g m
total-le f g m h =
    let rest : total (λ k r. f k r + (g k r - f k r)) m ≡ total g m = total-same keys_total (λ k r. f k r + (g k r - f k r)) g m (λ k r _. (let l = h k r in omega arith)) in
    omega (arith, total-plus keys_total f (λ k r. g k r - f k r) m, rest)

-- ---- all money and all units

one_of : (s : Status) (n : ℕ) → n ≡ (if same_status s Online then n else 0) + (if same_status s Offline then n else 0) + (if same_status s NotParticipating then n else 0)
one_of Online n = omega arith
one_of Offline n = omega arith
one_of NotParticipating n = omega arith

one_that_earns : (s : Status) (n : ℕ) → (if is_apart s then 0 else n) ≡ (if same_status s Online then n else 0) + (if same_status s Offline then n else 0)
one_that_earns Online n = omega arith
one_that_earns Offline n = omega arith
one_that_earns NotParticipating n = omega arith

money_of : (level : ℕ) (r : Row) → worth level r ≡ money_at level Online r + money_at level Offline r + money_at level NotParticipating r
money_of level (row.Account r) = one_of r.status (worth level (row.Account r))
money_of level (row.Asset a) = refl
money_of level (row.App a) = refl
money_of level (row.Box b) = refl

units_of : (r : Row) → units r ≡ units_at Online r + units_at Offline r
units_of (row.Account r) = one_that_earns r.status (r.balance / reward_unit)
units_of (row.Asset a) = refl
units_of (row.App a) = refl
units_of (row.Box b) = refl

-- all money is what the accounts of the three statuses have
pub money_counted : (level : ℕ) (m : RowMap) → money level m ≡ (counts level m).online.money + (counts level m).offline.money + (counts level m).apart.money
unfolding money counts
money_counted level m =
    total-same keys_total (worth_by level) (λ k r. money_at level Online r + money_at level Offline r + money_at level NotParticipating r) m (λ k r _. money_of level r)
    ∙ total_three (money_by level Online) (money_by level Offline) (money_by level NotParticipating) m

-- all units are those of the accounts that earn
pub units_counted : (level : ℕ) (m : RowMap) → total (λ k r. units r) m ≡ all_units (counts level m)
unfolding counts
units_counted level m =
    total-same keys_total (λ k r. units r) (λ k r. units_at Online r + units_at Offline r) m (λ k r _. units_of r)
    ∙ total-plus keys_total (units_by Online) (units_by Offline) m

pub money_is_counted : MoneyIsCounted
money_is_counted = record { money = money_counted; units = units_counted }

-- ---- the level rises

abbrev whole : ℕ → Count → Count → Count → Totals
whole level online offline apart = record { level = level; online = online; offline = offline; apart = apart }

abbrev both : ℕ → ℕ → Count
both m u = record { money = m; units = u }

-- an account of a status that earns
rises : (level rise : ℕ) (q : Status) (r : AccountRow) → is_apart q ≡ false → IsExact level rise r → money_at (level + rise) q (row.Account r) ≡ money_at level q (row.Account r) + rise * units_at q (row.Account r)
rises level rise q r earns exact = by_test (same_status r.status q) refl
  where
    same_as : (s t : Status) → same_status s t ≡ true → is_apart s ≡ is_apart t
    same_as Online Online e = refl
    same_as Online Offline e = absurd (true≢false (sym e))
    same_as Online NotParticipating e = absurd (true≢false (sym e))
    same_as Offline Online e = absurd (true≢false (sym e))
    same_as Offline Offline e = refl
    same_as Offline NotParticipating e = absurd (true≢false (sym e))
    same_as NotParticipating Online e = absurd (true≢false (sym e))
    same_as NotParticipating Offline e = absurd (true≢false (sym e))
    same_as NotParticipating NotParticipating e = refl

    by_test : (b : Bool) → same_status r.status q ≡ b → (if b then worth (level + rise) (row.Account r) else 0) ≡ (if b then worth level (row.Account r) else 0) + rise * (if b then r.balance / reward_unit else 0)
    by_test true e =
        let unit : units (row.Account r) ≡ r.balance / reward_unit = ap (λ b. if b then 0 else r.balance / reward_unit) (same_as r.status q e ∙ earns) in
        worth_raised level rise r exact ∙ ap (λ n. worth level (row.Account r) + rise * n) unit
    by_test false e = omega (arith, mul-zero rise)

stays_apart : (level rise : ℕ) (r : AccountRow) → money_at (level + rise) NotParticipating (row.Account r) ≡ money_at level NotParticipating (row.Account r)
stays_apart level rise r = by_status r.status refl
  where
    by_status : (s : Status) → r.status ≡ s → (if same_status s NotParticipating then worth (level + rise) (row.Account r) else 0) ≡ (if same_status s NotParticipating then worth level (row.Account r) else 0)
    by_status Online e = refl
    by_status Offline e = refl
    by_status NotParticipating e =
        ap (λ n. r.balance + n) (pending_apart (level + rise) (share_of r) (ap is_apart e) ∙ sym (pending_apart level (share_of r) (ap is_apart e)))

module _ (level rise : ℕ) (m : RowMap) (exact : (k : Key) (r : AccountRow) → get m k ≡ Some (row.Account r) → IsExact level rise r) where
  count_rises : (q : Status) → is_apart q ≡ false → count (level + rise) q m ≡ earn rise (count level q m)
  count_rises q earns = ap (λ n. both n (total (units_by q) m)) (
      total-same keys_total (money_by (level + rise) q) (λ k r. money_at level q r + rise * units_at q r) m by_row
      ∙ total-plus keys_total (money_by level q) (λ k r. rise * units_at q r) m
      ∙ ap (λ n. total (money_by level q) m + n) (total-times keys_total rise (units_by q) m ∙ mul_comm rise (total (units_by q) m)))
    where
      by_row : (k : Key) (r : Row) → get m k ≡ Some r → money_at (level + rise) q r ≡ money_at level q r + rise * units_at q r
      by_row k (row.Account r) is = rises level rise q r earns (exact k r is)
      by_row k (row.Asset a) is = omega (arith, mul-zero rise)
      by_row k (row.App a) is = omega (arith, mul-zero rise)
      by_row k (row.Box b) is = omega (arith, mul-zero rise)

  apart_stays : count (level + rise) NotParticipating m ≡ count level NotParticipating m
  apart_stays = ap (λ n. both n (total (units_by NotParticipating) m)) (total-same keys_total (money_by (level + rise) NotParticipating) (money_by level NotParticipating) m (λ k r _. by_row r))
    where
      by_row : (r : Row) → money_at (level + rise) NotParticipating r ≡ money_at level NotParticipating r
      by_row (row.Account r) = stays_apart level rise r
      by_row (row.Asset a) = refl
      by_row (row.App a) = refl
      by_row (row.Box b) = refl

  counts_rise : counts (level + rise) m ≡ raised (level + rise) (counts level m)
  unfolding counts
  counts_rise =
      let more : level + rise - level ≡ rise = omega arith in
      let online = count_rises Online refl ∙ ap (λ n. earn n (count level Online m)) (sym more) in
      let offline = count_rises Offline refl ∙ ap (λ n. earn n (count level Offline m)) (sym more) in
      ap₂ (λ (a b : Count). whole (level + rise) a b (count (level + rise) NotParticipating m)) online offline
      ∙ ap (λ (c : Count). whole (level + rise) (earn (level + rise - level) (count level Online m)) (earn (level + rise - level) (count level Offline m)) c) apart_stays

-- the totals of the same rows at a higher level
pub counts_raised : RiseIsCounted
counts_raised level rise m exact = counts_rise level rise m exact

-- ---- one row more or less

-- totals with a count more of each status
abbrev with_each : Totals → (Status → Count) → Totals
with_each t f = record t { online = plus t.online (f Online); offline = plus t.offline (f Offline); apart = plus t.apart (f NotParticipating) }

plus_none : (c : Count) → c ≡ plus c (both 0 0)
plus_none c = ap₂ both (let e : c.money ≡ c.money + 0 = omega arith in e) (let e : c.units ≡ c.units + 0 = omega arith in e)

none_more : (t : Totals) → t ≡ with_each t (λ q. both 0 0)
none_more t =
    ap (λ (c : Count). whole t.level c t.offline t.apart) (plus_none t.online)
    ∙ ap₂ (λ (b c : Count). whole t.level (plus t.online (both 0 0)) b c) (plus_none t.offline) (plus_none t.apart)

count_of_status : (t : Totals) (s : Status) (m u : ℕ) → and_count t s (both m u) ≡ with_each t (λ q. both (if same_status s q then m else 0) (if same_status s q then u else 0))
count_of_status t Online m u = ap₂ (λ (b c : Count). whole t.level (plus t.online (both m u)) b c) (plus_none t.offline) (plus_none t.apart)
count_of_status t Offline m u = ap₂ (λ (a c : Count). whole t.level a (plus t.offline (both m u)) c) (plus_none t.online) (plus_none t.apart)
count_of_status t NotParticipating m u = ap₂ (λ (a b : Count). whole t.level a b (plus t.apart (both m u))) (plus_none t.online) (plus_none t.offline)

-- what a row adds to the count of a status
abbrev weighed : ℕ → Key → Option Row → Status → Count
weighed level k o q = both (weight (money_by level q) k o) (weight (units_by q) k o)

share_weighs : (t : Totals) (k : Key) (o : Option Row) → and_share t (share_at o) ≡ with_each t (weighed t.level k o)
unfolding count_of
share_weighs t k None = none_more t
share_weighs t k (Some (row.Account r)) = count_of_status t r.status (r.balance + earned t.level r) (r.balance / reward_unit)
share_weighs t k (Some (row.Asset a)) = none_more t
share_weighs t k (Some (row.App a)) = none_more t
share_weighs t k (Some (row.Box b)) = none_more t

pub total_without : (w : Key → Row → ℕ) (m : RowMap) (k : Key) → total w (set_at m k None) + weight w k (get m k) ≡ total w m
total_without w m k = total-set_at keys_total exact_keys w m k None ∙ omega arith

-- the totals without the row under a key, and with its share, are all
pub counts_set : (level : ℕ) (m : RowMap) (k : Key) → and_share (counts level (set_at m k None)) (share_at (get m k)) ≡ counts level m
unfolding counts
counts_set level m k =
    let n = set_at m k None in
    let f = weighed level k (get m k) in
    let back : (q : Status) → plus (count level q n) (f q) ≡ count level q m = λ q. ap₂ both (total_without (money_by level q) m k) (total_without (units_by q) m k) in
    share_weighs (whole level (count level Online n) (count level Offline n) (count level NotParticipating n)) k (get m k)
    ∙ ap (λ (a : Count). whole level a (plus (count level Offline n) (f Offline)) (plus (count level NotParticipating n) (f NotParticipating))) (back Online)
    ∙ ap₂ (λ (b c : Count). whole level (count level Online m) b c) (back Offline) (back NotParticipating)

pub set_twice : (m : RowMap) (k : Key) (o : Option Row) → set_at (set_at m k o) k None ≡ set_at m k None
set_twice m k o = same_map keys_total exact_keys _ _ (λ q.
    get-set_at keys_total (set_at m k o) k None q
    ∙ ap (cond (eq_by_cmp key_cmp q k) None) (get-set_at keys_total m k o q)
    ∙ once (eq_by_cmp key_cmp q k) (get m q)
    ∙ sym (get-set_at keys_total m k None q))
  where
    once : (b : Bool) (below : Option Row) → cond b None (cond b o below) ≡ cond b None below
    once true below = refl
    once false below = refl

pub set_there : (m : RowMap) (k : Key) (o : Option Row) → get (set_at m k o) k ≡ o
set_there m k o = get-set_at keys_total m k o k ∙ ap (λ b. cond b o (get m k)) ((eq_by_cmp_equiv keys_total).refl k)

-- the totals with another row under a key, or none
pub counts_put : (level : ℕ) (m : RowMap) (k : Key) (o : Option Row) → and_share (counts level (set_at m k None)) (share_at o) ≡ counts level (set_at m k o)
counts_put level m k o =
    ap₂ (λ (n : RowMap) (x : Option Row). and_share (counts level n) (share_at x)) (sym (set_twice m k o)) (sym (set_there m k o))
    ∙ counts_set level (set_at m k o) k

-- ---- 64 bits

-- the units of a row are at most its money
pub units_within : (level : ℕ) (q : Status) (r : Row) → units_at q r ≤ money_at level q r
units_within level q (row.Account r) = by_test (same_status r.status q)
  where
    by_test : (b : Bool) → (if b then r.balance / reward_unit else 0) ≤ (if b then r.balance + earned level r else 0)
    by_test true = omega arith
    by_test false = omega arith
units_within level q (row.Asset a) = omega arith
units_within level q (row.App a) = omega arith
units_within level q (row.Box b) = omega arith

-- the totals are of 64 bits where all money is
pub counts_fit : (level : ℕ) (m : RowMap) → money level m < 2 ^ 64 → AreTotals (counts level m)
unfolding counts
counts_fit level m l =
    let all = money_counted level m in
    let on = total-le (units_by Online) (money_by level Online) m (λ k r. units_within level Online r) in
    let off = total-le (units_by Offline) (money_by level Offline) m (λ k r. units_within level Offline r) in
    let apart = total-le (units_by NotParticipating) (money_by level NotParticipating) m (λ k r. units_within level NotParticipating r) in
    ((omega arith, omega arith), (omega arith, omega arith), (omega arith, omega arith))

-- ---- changed rows, one after another

-- what changed rows weigh
abbrev pub weights : (Key → Row → ℕ) → List (Key × Option Row) → ℕ
weights w [] = 0
weights w (e ∷ es) = weight w e.0 e.1 + weights w es

-- what holds of the rows under later keys holds when one is set
others : (P : Key × Option Row → Option Row → Type 0) (k : Key) (v : Option Row) (m : RowMap) (es : List (Key × Option Row)) → T (below_all key_cmp k es)
    → AllByRecursion (λ e. P e (get m e.0)) es → AllByRecursion (λ e. P e (get (set_at m k v) e.0)) es
others P k v m [] h a = tt
others P k v m (e ∷ es) h a =
    let apart = ap (λ r. cond (is_eq r) v (get m e.0)) (turned_less k e.0 (less (key_cmp k e.0) (first_of _ (below_all key_cmp k es) h))) in
    (subst (P e) (sym (get-set_at keys_total m k v e.0 ∙ apart)) a.0, others P k v m es (second_of (is_lt (key_cmp k e.0)) (below_all key_cmp k es) h) a.1)

-- what changed rows weigh is at most what all rows with the changes do
pub weights-le : (w : Key → Row → ℕ) (es : List (Key × Option Row)) (m : RowMap) → T (is_sorted key_cmp es) → AllByRecursion (λ e. e.1 ≡ get m e.0) es → weights w es ≤ total w m
weights-le w [] m h a = omega arith
weights-le w (e ∷ es) m h a =
    let below = first_of (below_all key_cmp e.0 es) (is_sorted key_cmp es) h in
    let after = second_of (below_all key_cmp e.0 es) (is_sorted key_cmp es) h in
    let rest : weights w es ≤ total w (set_at m e.0 None) = weights-le w es (set_at m e.0 None) after (others (λ x o. x.1 ≡ o) e.0 None m es below a.1) in
    omega (arith, total_without w m e.0, rest, ap (weight w e.0) a.0)

none_below : (k : Key) (es : List (Key × Option Row)) → T (below_all key_cmp k es) → find key_cmp k es ≡ None
none_below k [] h = refl
none_below k (e ∷ es) h = ap (λ r. cond (is_eq r) (Some e.1) (find key_cmp k es)) (less (key_cmp k e.0) (first_of _ (below_all key_cmp k es) h)) ∙ none_below k es (second_of (is_lt (key_cmp k e.0)) (below_all key_cmp k es) h)

-- the least key may be set first
least_first : (e : Key × Option Row) (es : List (Key × Option Row)) (m : RowMap) → T (below_all key_cmp e.0 es) → overlaid es (set_at m e.0 e.1) ≡ set_at (overlaid es m) e.0 e.1
least_first e es m h = same_map keys_total exact_keys _ _ (λ q.
    get-overlaid keys_total es (set_at m e.0 e.1) q
    ∙ ap (or_below (find key_cmp q es)) (get-set_at keys_total m e.0 e.1 q)
    ∙ by_test q (eq_by_cmp key_cmp q e.0) refl
    ∙ ap (cond (eq_by_cmp key_cmp q e.0) e.1) (sym (get-overlaid keys_total es m q))
    ∙ sym (get-set_at keys_total (overlaid es m) e.0 e.1 q))
  where
    by_test : (q : Key) (b : Bool) → eq_by_cmp key_cmp q e.0 ≡ b → or_below (find key_cmp q es) (cond b e.1 (get m q)) ≡ cond b e.1 (or_below (find key_cmp q es) (get m q))
    by_test q true t = ap (λ o. or_below o e.1) (ap (λ k. find key_cmp k es) (same_key q e.0 t) ∙ none_below e.0 es h)
    by_test q false t = refl

-- one row in place of another
pub placed : (level : ℕ) (m : RowMap) (k : Key) (o : Option Row) → money level (set_at m k o) < 2 ^ 64 → in_place (counts level m) (share_at (get m k)) (share_at o) ≡ counts level (set_at m k o)
placed level m k o l =
    let put = counts_put level m k o in
    changed (counts level m) (counts level (set_at m k None)) _ (share_at (get m k)) (share_at o) refl (sym (counts_set level m k)) (subst AreTotals (sym put) (counts_fit level (set_at m k o) l)) ∙ put

-- the totals with each changed row in place of what stood there are those of the rows with the changes
pub counts_changed : (level : ℕ) (bs es : List (Key × Option Row)) (m : RowMap) → T (is_sorted key_cmp es) → AllByRecursion (λ e. now_at bs e.0 ≡ get m e.0) es → money level m + weights (worth_by level) es < 2 ^ 64
    → recounted bs (counts level m) es ≡ counts level (overlaid es m)
unfolding money
counts_changed level bs [] m h a l = refl
counts_changed level bs (e ∷ es) m h a l =
    let n = set_at m e.0 e.1 in
    let below = first_of (below_all key_cmp e.0 es) (is_sorted key_cmp es) h in
    let after = second_of (below_all key_cmp e.0 es) (is_sorted key_cmp es) h in
    let moved = total-set_at keys_total exact_keys (worth_by level) m e.0 e.1 in
    let few : money level n + weights (worth_by level) es < 2 ^ 64 = omega arith in
    let one = placed level m e.0 e.1 (omega arith) in
    ap (λ o. recounted bs (in_place (counts level m) (share_at o) (share_at e.1)) es) a.0
    ∙ ap (λ t. recounted bs t es) one
    ∙ counts_changed level bs es n after (others (λ x o. now_at bs x.0 ≡ o) e.0 e.1 m es below a.1) few
    ∙ ap (counts level) (least_first e es m below)

-- ---- a work's changes

before_block : (c : Option (Option Row)) (below : Option Row) → IfSome c (λ old. old ≡ below) → IsSome c → or_below c None ≡ below
before_block None below told had = absurd (true≢false (sym had))
before_block (Some x) below told had = told

counted-held : (es : List (Key × Held)) (t : Totals) (xs : List (Key × Held)) → AllByRecursion (λ e. at es e.0 ≡ Some e.1) xs → counted_anew t xs ≡ recounted (befores es) t (nows xs)
counted-held es t [] h = refl
counted-held es t (e ∷ xs) h =
    let old : now_at (befores es) e.0 ≡ e.1.block = ap (λ o. or_below o None) (at-befores es e.0 ∙ ap (option_map (λ h. h.block)) h.0) in
    ap (λ o. counted_anew (in_place t (share_at o) (share_at e.1.row)) xs) (sym old)
    ∙ counted-held es (in_place t (share_at (now_at (befores es) e.0)) (share_at e.1.row)) xs h.1

pub work_counted : (level : ℕ) (t : Bool) (m : RowMap) (es : List (Key × Held)) (ss : List (Key × Option Row)) (before result : Totals) → IsWork t m es ss → t ≡ true → IsStrictlySortedBy key_cmp (map (λ e. e.0) es)
    → result ≡ counted_anew before es → before ≡ counts level m → IsWithin level m → IsWithin level (overlaid (nows es) m) → result ≡ counts level (overlaid (nows es) m)
unfolding IsWithin money
work_counted level t m es ss before result w told ordered value is block now =
    let rs = nows es in
    let bs = befores es in
    let all = sorted rs (nows-ordered es ordered) in
    let found : AllByRecursion (λ e. at rs e.0 ≡ Some e.1) rs = all_more rs (λ e is. sym (find-lookup keys_total rs e.0) ∙ is) (each_found rs all) in
    let few = weights-le (worth_by level) rs (overlaid rs m) all (all_more rs (λ e is. now_changed rs m e.0 e.1 (sym is)) found) in
    value
    ∙ counted-held es before es (each_at es ordered)
    ∙ ap (λ (x : Totals). recounted bs x rs) is
    ∙ counts_changed level bs rs m all
    (all_more rs (λ e is. before_block (at bs e.0) (get m e.0) (told-before es m e.0 (w.told told e.0)) (some-before es e.0 (ap is_some is))) found)
    (omega arith)
