-- The totals of a genesis are those of its rows.
use Rattle.std.proofs.Common.{◌≡◌, ◌+◌, ◌/◌, ℕ, refl, sym, ap, ap₂, ◌∙◌, subst, arith, Bool, true, false, cond, if◌then◌else◌, Less, Some, None, option_map, List, [], ◌∷◌, map, sum_by}
use Rattle.std.specs.Ordering.{is_eq}
use Rattle.std.specs.FinMap.{FinMap, get, from_entries, get-empty}
use Rattle.std.proofs.lemmas.Bool.{and_parts}
use Rattle.al_base.specs.declared.account.Status.TheVariants.{Offline, Online, NotParticipating}
use Rattle.al_base.specs.declared.address.Address.{Address}
use Rattle.al_base.specs.declared.key.Key.{Key}
use Rattle.al_base.specs.declared.key.Key.TheVariants.{Account}
use Rattle.al_base.specs.Keys.{key_cmp}
use Rattle.al_block.specs.declared.header.Header.{Header}
use Rattle.al_msgpack.specs.Rising.{rises}
use Rattle.al_rewards.specs.declared.share.Share.{Share}
use Rattle.al_rewards.specs.declared.totals.Count.{Count}
use Rattle.al_rewards.specs.declared.totals.Totals.{Totals}
use Rattle.al_rewards.specs.Pending.{pending, reward_unit}
use Rattle.al_rewards.specs.Totals.{AreTotals, and_count, and_share, count_of, no_count, no_totals, plus}
use Rattle.al_rows.specs.declared.account.AccountRow.{AccountRow}
use Rattle.al_rows.specs.declared.row.Row.{Row}
use Rattle.al_rows.specs.declared.row.Row.TheVariants as row
use Rattle.al_rows.specs.declared.stored.Stored.{Stored}
use Rattle.al_rows.specs.Finite.{set_at}
use Rattle.al_rows.specs.Rows.{RowMap, bare, is_zero, is_zero_account, no_account, unless_zero}
use Rattle.al_rows.proofs.Keys.{keys_total, exact_keys}
use Rattle.al_rows.proofs.Maps.{get-map_entries}
use Rattle.al_rows.proofs.Sames.{account_true}
use Rattle.al_overlay.specs.Accounts.{share_of}
use Rattle.al_moves.specs.Totals.{counts, money_at, share_at, units_at}
use Rattle.al_moves.proofs.Counts.{counts_fit, counts_put, counts_set}
use Rattle.al_moves.proofs.Monies.{none_pending}
use Rattle.al_overlay.proofs.Overlays.{get-set}
use Rattle.al_genesis.specs.declared.genesis_fields.FirstAccount.{FirstAccount}
use Rattle.al_genesis.specs.Genesis.{addresses_of, first_row}
use Rattle.al_eval.specs.Start.{and_accounts, start, start_rows, start_totals, with_account, with_accounts}
use Rattle.al_eval.specs.State.{counts_in}
use Rattle.al_eval.specs.Sound.{StartIsCounted}
use Rattle.al_eval.proofs.Firsts.{bare_nothing, bare_set, entries_none, less, start_is_sound}

-- ---- no account

counts_of_none : counts 0 (bare (from_entries [])) ≡ no_totals 0
unfolding counts
counts_of_none =
    ap (counts 0) bare_nothing
    ∙ ap (λ (es : List (Key × Row)). record {
      level = 0;
      online = record { money = sum_by (λ (e : Key × Row). money_at 0 Online e.1) es; units = sum_by (λ (e : Key × Row). units_at Online e.1) es };
      offline = record { money = sum_by (λ (e : Key × Row). money_at 0 Offline e.1) es; units = sum_by (λ (e : Key × Row). units_at Offline e.1) es };
      apart = record { money = sum_by (λ (e : Key × Row). money_at 0 NotParticipating e.1) es; units = sum_by (λ (e : Key × Row). units_at NotParticipating e.1) es };
    }) entries_none

-- ---- one account more

-- an account of nothing adds nothing
adds_none : (t : Totals) (s : Share) → s.status ≡ Offline → s.balance ≡ 0 → s.base ≡ t.level → and_share t (Some s) ≡ t
unfolding count_of
adds_none t s offline empty base =
    let money : s.balance + pending t.level s ≡ 0 = omega (arith, empty, none_pending t.level s base) in
    let more : (c : Count) → plus c no_count ≡ c = λ c. ap₂ (λ (m u : ℕ). record { money = m; units = u }) (let e : c.money + 0 ≡ c.money = omega arith in e) (let e : c.units + 0 ≡ c.units = omega arith in e) in
    ap (λ q. and_count t q (count_of t.level s)) offline
    ∙ ap₂ (λ (m u : ℕ). and_count t Offline (record { money = m; units = u })) money (ap (λ n. n / reward_unit) empty)
    ∙ ap (λ (c : Count). record { level = t.level; online = t.online; offline = c; apart = t.apart }) (more t.offline)

-- a zero row is no row, and adds as much
zero_adds : (t : Totals) (r : AccountRow) → r.base ≡ t.level → and_share t (Some (share_of r)) ≡ and_share t (share_at (unless_zero (row.Account r)))
unfolding is_zero is_zero_account
zero_adds t r base = by_test (is_zero (row.Account r)) refl
  where
    by_test : (b : Bool) → is_zero (row.Account r) ≡ b → and_share t (Some (share_of r)) ≡ and_share t (share_at (if b then None else Some (row.Account r)))
    by_test true e =
        let z = account_true r (record no_account { base = r.base }) e in
        adds_none t (share_of r) (ap (λ (a : AccountRow). a.status) z) (ap (λ (a : AccountRow). a.balance) z) base
    by_test false e = refl

-- where no row stands at its address
one_more : (m : FinMap key_cmp Stored) (a : FirstAccount) → get (bare m) (Account a.address) ≡ None → and_share (counts 0 (bare m)) (Some (share_of (first_row a).row)) ≡ counts 0 (bare (with_account m (first_row a)))
unfolding counts
one_more m a none =
    let k = Account a.address in
    let o = unless_zero (row.Account (first_row a).row) in
    let same : counts 0 (set_at (bare m) k None) ≡ counts 0 (bare m) = ap (λ p. and_share (counts 0 (set_at (bare m) k None)) (share_at p)) (sym none) ∙ counts_set 0 (bare m) k in
    zero_adds (counts 0 (bare m)) (first_row a).row refl
    ∙ ap (λ t. and_share t (share_at o)) (sym same)
    ∙ counts_put 0 (bare m) k o
    ∙ ap (counts 0) (sym (bare_set m (Account a.address) (unless_zero (row.Account (first_row a).row))))

-- ---- all of them

-- no row stands at an address above this one
abbrev NoneAbove : Address → FinMap key_cmp Stored → Type 0
NoneAbove last m = (who : Address) → key_cmp (Account last) (Account who) ≡ Less → get (bare m) (Account who) ≡ None

none_above : (m : FinMap key_cmp Stored) (a : FirstAccount) → NoneAbove a.address m → NoneAbove a.address (with_account m (first_row a))
none_above m a none who l =
    let o = unless_zero (row.Account (first_row a).row) in
    ap (λ (n : RowMap). get n (Account who)) (bare_set m (Account a.address) (unless_zero (row.Account (first_row a).row)))
    ∙ get-set (bare m) (Account a.address) o (Account who)
    ∙ ap (λ r. cond (is_eq r) o (get (bare m) (Account who))) l
    ∙ none who l

more_counted : (m : FinMap key_cmp Stored) (last : FirstAccount) (xs : List FirstAccount) → rises (addresses_of (last ∷ xs)) ≡ true → NoneAbove last.address m → and_accounts (counts 0 (bare m)) (map first_row xs) ≡ counts 0 (bare (with_accounts m (map first_row xs)))
more_counted m last [] h none = refl
more_counted m last (a ∷ xs) h none =
    let p = and_parts _ _ h in
    let l = less last.address a.address p.0 in
    ap (λ t. and_accounts t (map first_row xs)) (one_more m a (none a.address l))
    ∙ more_counted (with_account m (first_row a)) a xs p.1 (none_above m a (λ who u. none who (keys_total.trans (Account last.address) (Account a.address) (Account who) l u)))

all_counted : (xs : List FirstAccount) → rises (addresses_of xs) ≡ true → start_totals (map first_row xs) ≡ counts 0 (bare (start_rows (map first_row xs)))
all_counted [] h = sym counts_of_none
all_counted (a ∷ xs) h =
    let none = λ (who : Address). get-map_entries exact_keys (λ k (s : Stored). s.row) (from_entries []) (Account who) ∙ ap (option_map (λ (s : Stored). s.row)) (get-empty key_cmp (Account who)) in
    ap (λ t. and_accounts (and_share t (Some (share_of (first_row a).row))) (map first_row xs)) (sym counts_of_none)
    ∙ ap (λ t. and_accounts t (map first_row xs)) (one_more (from_entries []) a (none a.address))
    ∙ more_counted (with_account (from_entries []) (first_row a)) a xs h (none_above (from_entries []) a (λ who l. none who))

-- ---- the state

pub start_counted : StartIsCounted
start_counted input g is =
    let level : 0 ≡ g.header.level = sym (ap (λ (h : Header). h.level) is.says.header) in
    let same : start_totals g.accounts ≡ counts_in (start g) =
    subst (λ n. start_totals g.accounts ≡ counts n (bare (start_rows g.accounts))) level
    (subst (λ xs. start_totals xs ≡ counts 0 (bare (start_rows xs))) (sym is.says.accounts) (all_counted is.fields.accounts is.good.0.0.0.0)) in
    (same, subst AreTotals (sym same) (counts_fit g.header.level (bare (start g).rows) (omega (arith, (start_is_sound input g is).rows.money))))
