-- The rows that a genesis begins with.
use Rattle.std.proofs.Math.Seq.{drop-cons}
use Rattle.std.proofs.Common.{◌≡◌, ◌≤◌, ◌<◌, ◌+◌, ℕ, suc, drop, get_or, length, refl, sym, ap, ◌∙◌, subst, arith, List, [], ◌∷◌, map, All, Bool, true, false, cond, IfSome, Option, Some, None, if◌then◌else◌}
use Rattle.std.specs.List.{AllByRecursion}
use Rattle.std.specs.List.Sorted.{IsStrictlySortedBy}
use Rattle.std.proofs.lemmas.List.Elements.{All-from_recursion}
use Rattle.std.proofs.lemmas.List.Sums.{sum_by-cons}
use Rattle.std.specs.BTreeMap.{BTreeMap, is_at}
use Rattle.std.specs.FinMap.{FinMap, get, from_entries, same_map}
use Rattle.al_base.specs.declared.key.Key.{Key}
use Rattle.al_base.specs.declared.key.Key.TheVariants.{Account}
use Rattle.al_base.specs.Keys.{key_cmp}
use Rattle.al_rows.specs.declared.row.Row.TheVariants as row
use Rattle.al_rows.specs.declared.stored.Stored.{Stored}
use Rattle.al_rows.specs.Finite.{set_at}
use Rattle.al_rows.specs.Limits.{max_balance}
use Rattle.al_rows.specs.Rows.{AccountInRange, IsKept, is_zero, unless_zero}
use Rattle.al_rows.proofs.Keys.{keys_total, exact_keys}
use Rattle.al_rows.proofs.Maps.{find-lookup, get-set_at}
use Rattle.al_rows.proofs.Views.{get-of_entries, sorted}
use Rattle.al_overlay.specs.Held.{at}
use Rattle.al_overlay.proofs.Overlays.{turned_at, same_key}
use Rattle.al_overlay.proofs.Firsts.{each_found, all_more}
use Rattle.al_genesis.specs.declared.genesis_fields.FirstAccount.{FirstAccount}
use Rattle.al_genesis.specs.declared.genesis.GenesisRow.{GenesisRow}
use Rattle.al_genesis.specs.declared.genesis.Genesis.{Genesis}
use Rattle.al_genesis.specs.Genesis.{IsGenesis, first_row, money_of}
use Rattle.al_deltas.specs.Queue.{stored_at}
use Rattle.al_eval.specs.Start.{with_accounts, and_accounts, start_totals}
use Rattle.al_base.specs.declared.account.Status.{Status}
use Rattle.al_base.specs.declared.account.Status.TheVariants.{Offline, Online, NotParticipating}
use Rattle.al_overlay.specs.Accounts.{share_of}
use Rattle.al_rewards.specs.declared.totals.Count.{Count}
use Rattle.al_rewards.specs.declared.totals.Totals.{Totals}
use Rattle.al_rewards.specs.Totals.{AreTotals, IsCount, and_count, and_share, count_of, plus}

-- to put what stands under a key is to set it
pub put_sets : (old new : BTreeMap Key Stored) (k : Key) (v : Option Stored) → ((q : Key) → at new.entries q ≡ cond (is_at (key_cmp k) q) v (at old.entries q)) → from_entries {R = key_cmp} new.entries ≡ set_at (from_entries old.entries) k v
put_sets old new k v h = same_map keys_total exact_keys (from_entries new.entries) (set_at (from_entries old.entries) k v) (λ q.
    get-of_entries new q
    ∙ h q
    ∙ ap (cond (is_at (key_cmp k) q) v) (sym (get-of_entries old q))
    ∙ ap (λ b. cond b v (get (from_entries {R = key_cmp} old.entries) q)) (sym (turned_at k q))
    ∙ sym (get-set_at keys_total (from_entries old.entries) k v q))

-- what is put of an account is kept
account_kept : (a : GenesisRow) → AccountInRange a.row → IfSome (stored_at 0 (unless_zero (row.Account a.row))) (λ (s : Stored). IsKept (Account a.address) s.row)
account_kept a range = by_zero (is_zero (row.Account a.row)) refl
  where
    by_zero : (b : Bool) → is_zero (row.Account a.row) ≡ b → IfSome (stored_at 0 (if b then None else Some (row.Account a.row))) (λ (s : Stored). IsKept (Account a.address) s.row)
    by_zero true e = tt
    by_zero false e = (range, e)

pub put_kept : (a : GenesisRow) (old new : List (Key × Stored)) → AccountInRange a.row → ((q : Key) → at new q ≡ cond (is_at (key_cmp (Account a.address)) q) (stored_at 0 (unless_zero (row.Account a.row))) (at old q))
    → ((q : Key) → IfSome (at old q) (λ (s : Stored). IsKept q s.row)) → (q : Key) → IfSome (at new q) (λ (s : Stored). IsKept q s.row)
put_kept a old new range h kept q = subst (λ o. IfSome o (λ (s : Stored). IsKept q s.row)) (sym (h q)) (by_key (is_at (key_cmp (Account a.address)) q) refl)
  where
    by_key : (b : Bool) → is_at (key_cmp (Account a.address)) q ≡ b → IfSome (cond b (stored_at 0 (unless_zero (row.Account a.row))) (at old q)) (λ (s : Stored). IsKept q s.row)
    by_key true e = subst (λ k. IfSome (stored_at 0 (unless_zero (row.Account a.row))) (λ (s : Stored). IsKept k s.row)) (same_key (Account a.address) q e) (account_kept a range)
    by_key false e = kept q

pub all_kept : (rows : BTreeMap Key Stored) → IsStrictlySortedBy key_cmp (map (λ e. e.0) rows.entries) → ((q : Key) → IfSome (at rows.entries q) (λ (s : Stored). IsKept q s.row)) → All (λ e. IsKept e.0 e.1.row) rows.entries
all_kept rows ordered kept =
    All-from_recursion (λ (e : Key × Stored). IsKept e.0 e.1.row) rows.entries (all_more rows.entries (λ e is.
    subst (λ o. IfSome o (λ (s : Stored). IsKept e.0 s.row)) (sym (find-lookup keys_total rows.entries e.0) ∙ is) (kept e.0)) (each_found rows.entries (sorted rows.entries ordered)))

-- the rows with one account more
pub next_account : (old new : BTreeMap Key Stored) (xs : List GenesisRow) (i : ℕ) (d : GenesisRow) → i < length xs
    → ((q : Key) → at new.entries q ≡ cond (is_at (key_cmp (Account (get_or xs i d).address)) q) (stored_at 0 (unless_zero (row.Account (get_or xs i d).row))) (at old.entries q))
    → with_accounts (from_entries new.entries) (drop (i + 1) xs) ≡ with_accounts (from_entries old.entries) (drop i xs)
next_account old new xs i d within h =
    let one : suc i ≡ i + 1 = omega arith in
    let left : drop i xs ≡ get_or xs i d ∷ drop (i + 1) xs = drop-cons xs i d within ∙ ap (λ j. get_or xs i d ∷ drop j xs) one in
    ap (λ (m : FinMap key_cmp Stored). with_accounts m (drop (i + 1) xs)) (put_sets old new (Account (get_or xs i d).address) (stored_at 0 (unless_zero (row.Account (get_or xs i d).row))) h)
    ∙ sym (ap (with_accounts (from_entries old.entries)) left)

-- ---- the accounts of a genesis are in their ranges

ranged_one : (a : FirstAccount) → a.row.balance ≤ max_balance → AccountInRange (first_row a).row
ranged_one a h = (
  h,
  record {
    assets_held = omega arith;
    assets_created = omega arith;
    apps_created = omega arith;
    apps_opted = omega arith;
    extra_pages = omega arith;
    uints = omega arith;
    byte_slices = omega arith;
    boxes = omega arith;
    box_bytes = omega arith;
  },
)

ranged_all : (accounts : List FirstAccount) → money_of accounts ≤ max_balance → AllByRecursion (λ (r : GenesisRow). AccountInRange r.row) (map first_row accounts)
ranged_all [] h = tt
ranged_all (a ∷ accounts) h =
    let more : money_of (a ∷ accounts) ≡ a.row.balance + money_of accounts = sum_by-cons (λ x. x) a.row.balance (map (λ (b : FirstAccount). b.row.balance) accounts) in
    (ranged_one a (omega (arith, h, more)), ranged_all accounts (omega (arith, h, more)))

pub genesis_ranged : (input : List ℕ) (g : Genesis) → IsGenesis input g → All (λ a. AccountInRange a.row) g.accounts
genesis_ranged input g is =
    subst (All (λ (a : GenesisRow). AccountInRange a.row)) (sym is.says.accounts) (All-from_recursion (λ (r : GenesisRow). AccountInRange r.row) (map first_row is.fields.accounts) (ranged_all is.fields.accounts is.good.1))

-- ---- what the accounts have together

count_less : (c d : Count) → IsCount (plus c d) → IsCount c
count_less c d h = (omega (arith, h.0), omega (arith, h.1))

fits_count : (t : Totals) (status : Status) (c : Count) → AreTotals (and_count t status c) → AreTotals t
fits_count t Online c h = (count_less t.online c h.0, h.1, h.2)
fits_count t Offline c h = (h.0, count_less t.offline c h.1, h.2)
fits_count t NotParticipating c h = (h.0, h.1, count_less t.apart c h.2)

-- where the totals of all accounts fit, those of a front do
fits_front : (t : Totals) (xs : List GenesisRow) → AreTotals (and_accounts t xs) → AreTotals t
fits_front t [] h = h
fits_front t (a ∷ more) h = fits_count t a.row.status (count_of t.level (share_of a.row)) (fits_front (and_share t (Some (share_of a.row))) more h)

-- one account more
pub next_totals : (t new : Totals) (xs : List GenesisRow) (i : ℕ) (d : GenesisRow) → i < length xs → (AreTotals (start_totals xs) → and_accounts t (drop i xs) ≡ start_totals xs) → (AreTotals (and_share t (Some (share_of (get_or xs i d).row))) → new ≡ and_share t (Some (share_of (get_or xs i d).row)))
    → AreTotals (start_totals xs) → and_accounts new (drop (i + 1) xs) ≡ start_totals xs
next_totals t new xs i d within before one fits =
    let a = get_or xs i d in
    let e : and_accounts t (a ∷ drop (suc i) xs) ≡ start_totals xs = ap (and_accounts t) (sym (drop-cons xs i d within)) ∙ before fits in
    let all : AreTotals (and_accounts (and_share t (Some (share_of a.row))) (drop (suc i) xs)) = subst AreTotals (sym e) fits in
    let next : suc i ≡ i + 1 = omega arith in
    ap (λ j. and_accounts new (drop j xs)) (sym next) ∙ ap (λ u. and_accounts u (drop (suc i) xs)) (one (fits_front (and_share t (Some (share_of a.row))) (drop (suc i) xs) all)) ∙ e
