-- The shares of all rows, counted one after another, are what all accounts have together.
use Rattle.std.proofs.Common.{◌≡◌, ℕ, ◌+◌, ◌≤◌, ◌<◌, ◌^◌, ◌/◌, refl, sym, ap, ap₂, ◌∙◌, subst, List, [], ◌∷◌, map, sum_by, if◌then◌else◌, arith}
use Rattle.std.proofs.lemmas.List.Sums.{sum_by-cons}
use Rattle.std.specs.FinMap.{FinMap, entries}
use Rattle.al_base.specs.declared.account.Status.{Status}
use Rattle.al_base.specs.declared.account.Status.TheVariants.{Offline, Online, NotParticipating}
use Rattle.al_base.specs.declared.key.Key.{Key}
use Rattle.al_base.specs.Keys.{key_cmp}
use Rattle.al_rewards.specs.declared.totals.Count.{Count}
use Rattle.al_rewards.specs.declared.totals.Totals.{Totals}
use Rattle.al_rewards.specs.Pending.{reward_unit}
use Rattle.al_rewards.specs.Totals.{and_count, capped, capped_count, capped_totals, count_of, no_count, no_totals, plus}
use Rattle.al_rewards.proofs.Exact.{totals_same}
use Rattle.al_rows.specs.declared.row.Row.{Row}
use Rattle.al_rows.specs.declared.row.Row.TheVariants as row
use Rattle.al_rows.specs.declared.stored.Keyed.{Keyed}
use Rattle.al_rows.specs.declared.stored.Stored.{Stored}
use Rattle.al_rows.specs.Above.{keyed_of}
use Rattle.al_rows.specs.Limits.{max_balance}
use Rattle.al_rows.specs.Rows.{bare, same_status}
use Rattle.al_rows.proofs.Keys.{exact_keys}
use Rattle.al_rows.proofs.Maps.{entries-map_entries}
use Rattle.al_overlay.specs.Accounts.{earned}
use Rattle.al_moves.specs.Totals.{counts, count, money_at, units_at}
use Rattle.al_moves.proofs.Counts.{counts_fit, money_counted}
use Rattle.al_opening.specs.Counting.{IsTooMuch, all_money, and_row, and_rows}

abbrev whole : ℕ → Count → Count → Count → Totals
whole level online offline apart = record { level = level; online = online; offline = offline; apart = apart }

abbrev both : ℕ → ℕ → Count
both m u = record { money = m; units = u }

same_whole : (level : ℕ) (a b c x y z : Count) → a ≡ x → b ≡ y → c ≡ z → whole level a b c ≡ whole level x y z
same_whole level a b c x y z p q r = ap (λ (d : Count). whole level d b c) p ∙ ap₂ (λ (d e : Count). whole level x d e) q r

-- ---- one row

-- a count with this of a row more
abbrev weigh : ℕ → Row → Status → Count
weigh level r q = both (money_at level q r) (units_at q r)

-- totals with a count more of each status
abbrev with_each : Totals → (Status → Count) → Totals
with_each t f = record t { online = plus t.online (f Online); offline = plus t.offline (f Offline); apart = plus t.apart (f NotParticipating) }

number_more : (n m : ℕ) → capped (capped n + m) ≡ capped (n + m)
number_more n m = omega arith

number_stays : (n : ℕ) → capped (capped n) ≡ capped (n + 0)
number_stays n = omega arith

number_none : (n : ℕ) → capped n ≡ capped (n + 0)
number_none n = omega arith

count_more : (c : Count) (m u : ℕ) → capped_count (plus (capped_count c) (both m u)) ≡ capped_count (plus c (both m u))
count_more c m u = ap₂ both (number_more c.money m) (number_more c.units u)

count_stays : (c : Count) → capped_count (capped_count c) ≡ capped_count (plus c (both 0 0))
count_stays c = ap₂ both (number_stays c.money) (number_stays c.units)

count_none : (c : Count) → capped_count c ≡ capped_count (plus c (both 0 0))
count_none c = ap₂ both (number_none c.money) (number_none c.units)

share_more : (t : Totals) (s : Status) (m u : ℕ) → capped_totals (and_count (capped_totals t) s (both m u)) ≡ capped_totals (with_each t (λ q. both (if same_status s q then m else 0) (if same_status s q then u else 0)))
share_more t Online m u = same_whole t.level _ _ _ _ _ _ (count_more t.online m u) (count_stays t.offline) (count_stays t.apart)
share_more t Offline m u = same_whole t.level _ _ _ _ _ _ (count_stays t.online) (count_more t.offline m u) (count_stays t.apart)
share_more t NotParticipating m u = same_whole t.level _ _ _ _ _ _ (count_stays t.online) (count_stays t.offline) (count_more t.apart m u)

none_more : (t : Totals) → capped_totals t ≡ capped_totals (with_each t (λ q. both 0 0))
none_more t = same_whole t.level _ _ _ _ _ _ (count_none t.online) (count_none t.offline) (count_none t.apart)

row_more : (t : Totals) (r : Row) → and_row (capped_totals t) r ≡ capped_totals (with_each t (weigh t.level r))
unfolding count_of
row_more t (row.Account r) = share_more t r.status (r.balance + earned t.level r) (r.balance / reward_unit)
row_more t (row.Asset a) = none_more t
row_more t (row.App a) = none_more t
row_more t (row.Box b) = none_more t

-- ---- all rows

-- what rows have of a status
abbrev sums : ℕ → List Keyed → Status → Count
sums level rs q = both (sum_by (λ r. money_at level q r.stored.row) rs) (sum_by (λ r. units_at q r.stored.row) rs)

sums_more : (level : ℕ) (c : Count) (r : Keyed) (rs : List Keyed) (q : Status) → plus (plus c (weigh level r.stored.row q)) (sums level rs q) ≡ plus c (sums level (r ∷ rs) q)
sums_more level c r rs q =
    ap₂ both
    (let m = sum_by-cons (λ (r : Keyed). money_at level q r.stored.row) r rs in omega arith)
    (let u = sum_by-cons (λ (r : Keyed). units_at q r.stored.row) r rs in omega arith)

rows_more : (t : Totals) (rs : List Keyed) → and_rows (capped_totals t) rs ≡ capped_totals (with_each t (sums t.level rs))
rows_more t [] = none_more t
rows_more t (r ∷ rs) =
    let next = with_each t (weigh t.level r.stored.row) in
    ap (λ (s : Totals). and_rows s rs) (row_more t r.stored.row)
    ∙ rows_more next rs
    ∙ ap capped_totals (same_whole t.level _ _ _ _ _ _ (sums_more t.level t.online r rs Online) (sums_more t.level t.offline r rs Offline) (sums_more t.level t.apart r rs NotParticipating))

-- the rows of entries, and their rows without rounds
sum_kept : (w : Row → ℕ) (es : List (Key × Stored)) → 0 + sum_by (λ (r : Keyed). w r.stored.row) (map keyed_of es) ≡ sum_by (λ (e : Key × Row). w e.1) (map (λ (e : Key × Stored). (e.0, e.1.row)) es)
sum_kept w [] = refl
sum_kept w (e ∷ es) =
    let a = sum_by-cons (λ (r : Keyed). w r.stored.row) (keyed_of e) (map keyed_of es) in
    let b = sum_by-cons (λ (e : Key × Row). w e.1) (e.0, e.1.row) (map (λ (e : Key × Stored). (e.0, e.1.row)) es) in
    let c = sum_kept w es in
    omega arith

sum_bare : (w : Row → ℕ) (m : FinMap key_cmp Stored) → 0 + sum_by (λ (r : Keyed). w r.stored.row) (map keyed_of (entries m)) ≡ sum_by (λ (e : Key × Row). w e.1) (entries (bare m))
sum_bare w m = sum_kept w (entries m) ∙ ap (sum_by (λ (e : Key × Row). w e.1)) (sym (entries-map_entries exact_keys (λ (k : Key) (s : Stored). s.row) m))

-- the shares of all rows, counted from nothing
pub all_counted : (level : ℕ) (m : FinMap key_cmp Stored) → and_rows (no_totals level) (map keyed_of (entries m)) ≡ capped_totals (counts level (bare m))
unfolding counts
all_counted level m =
    let one : (q : Status) → plus no_count (sums level (map keyed_of (entries m)) q) ≡ count level q (bare m) = λ q. ap₂ both (sum_bare (money_at level q) m) (sum_bare (units_at q) m) in
    rows_more (no_totals level) (map keyed_of (entries m))
    ∙ ap capped_totals (same_whole level _ _ _ _ _ _ (one Online) (one Offline) (one NotParticipating))

-- ---- at most what accounts may have, or more

capped_below : (a b c : ℕ) → capped a + capped b + capped c ≤ max_balance → a + b + c < 2 ^ 64
capped_below a b c h = omega arith

capped_above : (a b c : ℕ) → max_balance < capped a + capped b + capped c → max_balance < a + b + c
capped_above a b c h = omega arith

pub counted_exactly : (level : ℕ) (rows : FinMap key_cmp Stored) (t : Totals) → t ≡ capped_totals (counts level (bare rows)) → all_money t ≤ max_balance → (t ≡ counts level (bare rows)) × (all_money t ≤ max_balance)
counted_exactly level rows t is few =
    let c = counts level (bare rows) in
    let low : all_money c < 2 ^ 64 = capped_below c.online.money c.offline.money c.apart.money (subst (λ (u : Totals). all_money u ≤ max_balance) is few) in
    (is ∙ totals_same c (counts_fit level (bare rows) (omega (arith, low, money_counted level (bare rows)))), few)

pub too_much : (level : ℕ) (rows : FinMap key_cmp Stored) (t : Totals) (counted : ℕ) → t ≡ capped_totals (counts level (bare rows)) → counted ≡ all_money t → max_balance < counted → IsTooMuch level rows counted
too_much level rows t counted is value more =
    let c = counts level (bare rows) in
    record {
      capped = value ∙ ap all_money is;
      above = more;
      more = capped_above c.online.money c.offline.money c.apart.money (subst (λ (n : ℕ). max_balance < n) (value ∙ ap all_money is) more);
    }
