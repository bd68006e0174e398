-- A genesis begins a sound state.
use Rattle.std.proofs.Common.{◌≡◌, ◌==◌, ◌≤◌, ◌+◌, ◌-◌, ◌*◌, ℕ, refl, sym, ap, ◌∙◌, subst, arith, Bool, true, false, not, ◌&&◌, ◌||◌, cond, if◌then◌else◌, Ordering, Less, Equal, Greater, Option, Some, None, option_map, List, [], ◌∷◌, map, zero-mul, eqb-true, sum_by, ap₂}
use Rattle.std.specs.Ordering.{is_lt, is_eq, nat_cmp}
use Rattle.std.specs.Cmp.Lexicographic.{slice_cmp, nat_list_eq_equiv}
use Rattle.std.specs.List.{AllByRecursion}
use Rattle.std.proofs.lemmas.List.Sums.{sum_by-cons}
use Rattle.std.proofs.lemmas.Bool.{and_parts, eqb-false}
use Rattle.std.specs.Str.{bytes_eq}
use Rattle.std.specs.BTreeMap.{is_at}
use Rattle.std.specs.FinMap.{FinMap, get, entries, from_entries, from_sorted, same_map, get-empty, get-from_sorted, entries-from_sorted}
use Rattle.al_base.specs.declared.account.Status.TheVariants.{NotParticipating}
use Rattle.al_base.specs.declared.address.Address.{Address}
use Rattle.al_base.specs.declared.key.Key.{Key}
use Rattle.al_base.specs.declared.key.Key.TheVariants as key
use Rattle.al_base.specs.Keys.{key_cmp}
use Rattle.al_block.specs.declared.header.Header.{Header}
use Rattle.al_record.proofs.Order.{same_name}
use Rattle.al_msgpack.specs.Rising.{rises}
use Rattle.al_rewards.specs.Next.{least_pool}
use Rattle.al_rows.specs.Limits.{max_balance}
use Rattle.al_rows.specs.declared.account.AccountRow.{AccountRow}
use Rattle.al_rows.specs.declared.row.Row.{Row}
use Rattle.al_rows.specs.declared.row.Row.TheVariants as row
use Rattle.al_rows.specs.declared.stored.Stored.{Stored}
use Rattle.al_rows.specs.Finite.{set_at, total}
use Rattle.al_rows.specs.Rows.{RowMap, bare, account, account_in, set_account, unless_zero, no_account}
use Rattle.al_rows.proofs.Keys.{keys_total, exact_keys}
use Rattle.al_rows.proofs.Maps.{get-map_entries, get-set_at}
use Rattle.al_overlay.specs.Accounts.{same_address, share_of}
use Rattle.al_moves.specs.Money.{worth, money}
use Rattle.al_moves.proofs.Monies.{none_pending, money_set, same_is}
use Rattle.al_genesis.specs.declared.genesis_fields.FirstAccount.{FirstAccount}
use Rattle.al_genesis.specs.declared.genesis.GenesisRow.{GenesisRow}
use Rattle.al_genesis.specs.Genesis.{addresses_of, has_special, balance_of, money_of, first_row, status_of, interval_of}
use Rattle.al_deltas.specs.Queue.{stored_at}
use Rattle.al_eval.specs.Start.{with_account, with_accounts, start}
use Rattle.al_moves.specs.Resources.{CountsAgree, owned, boxes_of, box_bytes_of, assets_held_in, assets_created_in, apps_created_in, apps_opted_in, extra_pages_in, uints_in, byte_slices_in}
use Rattle.al_resources.specs.Sound.{ResourcesAgree, SoundRows, holding_of, issued_of}
use Rattle.al_eval.specs.Sound.{StartIsSound}
use Rattle.al_resources.proofs.Steadies.{Keeps, AllBased, AllInRange, counts_of, at_set, at_unless, no_zero, other_account, keeps_account, keeps_on, keeps_itself}
use Rattle.al_resources.proofs.Agrees.{resources_agree, counts_agree}

-- ---- the rows of a genesis without their rounds

abbrev pub seated : RowMap → List GenesisRow → RowMap
seated m [] = m
seated m (a ∷ more) = seated (set_account m a.address a.row) more

pub bare_set : (m : FinMap key_cmp Stored) (k : Key) (o : Option Row) → bare (set_at m k (stored_at 0 o)) ≡ set_at (bare m) k o
bare_set m k o = same_map keys_total exact_keys (bare (set_at m k (stored_at 0 o))) (set_at (bare m) k o) (λ q.
    get-map_entries exact_keys (λ k (s : Stored). s.row) (set_at m k (stored_at 0 o)) q
    ∙ ap (option_map (λ (s : Stored). s.row)) (get-set_at keys_total m k (stored_at 0 o) q)
    ∙ by_test (is_at (key_cmp q) k) q o
    ∙ ap (cond (is_at (key_cmp q) k) o) (sym (get-map_entries exact_keys (λ k (s : Stored). s.row) m q))
    ∙ sym (get-set_at keys_total (bare m) k o q))
  where
    row_back : (o : Option Row) → option_map (λ (s : Stored). s.row) (stored_at 0 o) ≡ o
    row_back None = refl
    row_back (Some r) = refl

    by_test : (b : Bool) (q : Key) (o : Option Row) → option_map (λ (s : Stored). s.row) (cond b (stored_at 0 o) (get m q)) ≡ cond b o (option_map (λ (s : Stored). s.row) (get m q))
    by_test true q o = row_back o
    by_test false q o = refl

pub bare_accounts : (m : FinMap key_cmp Stored) (xs : List GenesisRow) → bare (with_accounts m xs) ≡ seated (bare m) xs
bare_accounts m [] = refl
bare_accounts m (a ∷ xs) = bare_accounts (with_account m a) xs ∙ ap (λ n. seated n xs) (bare_set m (key.Account a.address) (unless_zero (row.Account a.row)))

abbrev pub nothing : RowMap
nothing = from_entries []

account_none : (who : Address) → account nothing who ≡ no_account
account_none who = ap account_in (get-empty key_cmp (key.Account who))

pub entries_none : entries nothing ≡ []
entries_none = ap entries (same_map keys_total exact_keys nothing (from_sorted []) (λ q. get-empty key_cmp q ∙ sym (get-from_sorted key_cmp [] q tt))) ∙ entries-from_sorted key_cmp [] tt

total_none : (w : Key → Row → ℕ) → total w nothing ≡ 0
total_none w = ap (sum_by (λ (e : Key × Row). w e.0 e.1)) entries_none

pub bare_nothing : bare (from_entries []) ≡ nothing
bare_nothing = same_map keys_total exact_keys (bare (from_entries [])) nothing (λ q. get-map_entries exact_keys (λ k (s : Stored). s.row) (from_entries []) q ∙ ap (option_map (λ (s : Stored). s.row)) (get-empty key_cmp q) ∙ sym (get-empty key_cmp q))

-- the rows that a genesis record begins with
abbrev begun : List FirstAccount → RowMap
begun xs = seated nothing (map first_row xs)

-- ---- what they keep of none

seated_keeps : (m : RowMap) (xs : List FirstAccount) → money_of xs ≤ max_balance → Keeps 0 nothing m → Keeps 0 nothing (seated m (map first_row xs))
seated_keeps m [] few h = h
seated_keeps m (a ∷ xs) few h =
    let r = (first_row a).row in
    let more : money_of (a ∷ xs) ≡ a.row.balance + money_of xs = sum_by-cons (λ x. x) a.row.balance (map (λ (b : FirstAccount). b.row.balance) xs) in
    let set : Keeps 0 m (set_account m a.address r) = keeps_account 0 m a.address r (sym (h.counts a.address ∙ ap counts_of (account_none a.address))) (λ _ _. omega arith) (λ _. omega (arith, more, few)) in
    seated_keeps (set_account m a.address r) xs (omega (arith, more, few)) (keeps_on 0 nothing m (set_account m a.address r) h set)

begun_keeps : (xs : List FirstAccount) → money_of xs ≤ max_balance → Keeps 0 nothing (begun xs)
begun_keeps xs few = seated_keeps nothing xs few (keeps_itself 0 nothing)

no_row : (k : Key) (r : Row) → get nothing k ≡ Some r → ⊥
no_row k r e = let x : ◌≡◌ {A = Option Row} None (Some r) = sym (get-empty key_cmp k) ∙ e in cc

resources_none : ResourcesAgree 0 nothing
resources_none = record {
  given = λ who id r e. absurd (no_row (key.Resource who id) r e);
  kinds = λ a b id r t e f. absurd (no_row (key.Resource a id) r e);
  creators = λ a b id r t e f p q. absurd (no_row (key.Resource a id) r e);
}

count_none : (who : Address) (f : AccountRow → ℕ) (w : Key → Row → ℕ) → f no_account ≡ 0 → f (account nothing who) ≡ total w nothing
count_none who f w z = ap f (account_none who) ∙ z ∙ sym (total_none w)

counts_none : (who : Address) → CountsAgree nothing who
counts_none who = record {
  assets_held = count_none who (λ a. a.assets_held) (owned who assets_held_in) refl;
  assets_created = count_none who (λ a. a.assets_created) (owned who assets_created_in) refl;
  apps_created = count_none who (λ a. a.apps_created) (owned who apps_created_in) refl;
  apps_opted = count_none who (λ a. a.apps_opted) (owned who apps_opted_in) refl;
  extra_pages = count_none who (λ a. a.extra_pages) (owned who extra_pages_in) refl;
  uints = count_none who (λ a. a.uints) (owned who uints_in) refl;
  byte_slices = count_none who (λ a. a.byte_slices) (owned who byte_slices_in) refl;
  boxes = count_none who (λ a. a.boxes) (boxes_of who) refl;
  box_bytes = count_none who (λ a. a.box_bytes) (box_bytes_of who) refl;
}

-- ---- their money

worth_first : (a : FirstAccount) → worth 0 (row.Account (first_row a).row) ≡ a.row.balance
worth_first a = omega (arith, none_pending 0 (share_of (first_row a).row) refl)

seated_money : (m : RowMap) (xs : List FirstAccount) → money 0 (seated m (map first_row xs)) ≤ money 0 m + money_of xs
seated_money m [] = omega arith
seated_money m (a ∷ xs) =
    let r = (first_row a).row in
    let more : money_of (a ∷ xs) ≡ a.row.balance + money_of xs = sum_by-cons (λ x. x) a.row.balance (map (λ (b : FirstAccount). b.row.balance) xs) in
    omega (arith, seated_money (set_account m a.address r) xs, money_set 0 m a.address r, worth_first a)

no_money : money 0 nothing ≡ 0
unfolding money
no_money = total_none (λ k r. worth 0 r)

-- ---- sink and pool among them

pub less : (a b : Address) → is_lt (slice_cmp nat_cmp a.0 b.0) ≡ true → key_cmp (key.Account a) (key.Account b) ≡ Less
less a b e = by_order (key_cmp (key.Account a) (key.Account b)) e
  where
    by_order : (r : Ordering) → is_lt r ≡ true → r ≡ Less
    by_order Less e = refl
    by_order Equal e = absurd (let x : false ≡ true = e in cc)
    by_order Greater e = absurd (let x : false ≡ true = e in cc)

abbrev pub AllAbove : Address → List FirstAccount → Type 0
AllAbove who xs = AllByRecursion (λ a. key_cmp (key.Account who) (key.Account a.address) ≡ Less) xs

above_more : (a b : Address) (xs : List FirstAccount) → key_cmp (key.Account a) (key.Account b) ≡ Less → AllAbove b xs → AllAbove a xs
above_more a b [] l h = tt
above_more a b (x ∷ xs) l h = (keys_total.trans (key.Account a) (key.Account b) (key.Account x.address) l h.0, above_more a b xs l h.1)

pub all_above : (a : FirstAccount) (xs : List FirstAccount) → rises (addresses_of (a ∷ xs)) ≡ true → AllAbove a.address xs
all_above a [] h = tt
all_above a (b ∷ xs) h =
    let p = and_parts _ _ h in
    let l = less a.address b.address p.0 in
    (l, above_more a.address b.address xs l (all_above b xs p.1))

pub rest_rises : (a : FirstAccount) (xs : List FirstAccount) → rises (addresses_of (a ∷ xs)) ≡ true → rises (addresses_of xs) ≡ true
rest_rises a [] h = refl
rest_rises a (b ∷ xs) h = (and_parts _ _ h).1

apart : (a b : Address) → key_cmp (key.Account a) (key.Account b) ≡ Less → same_address a b ≡ false
apart a b l = sym (same_is a b) ∙ ap is_eq l

-- an address below all of them is none of them
not_at : (who : Address) (a : FirstAccount) → key_cmp (key.Account who) (key.Account a.address) ≡ Less → same_address a.address who ≡ false
not_at who a l = nat_list_eq_equiv.symm a.address.0 who.0 ∙ apart who a.address l

later_same : (who : Address) (m : RowMap) (xs : List FirstAccount) → AllAbove who xs → account (seated m (map first_row xs)) who ≡ account m who
later_same who m [] h = refl
later_same who m (a ∷ xs) h =
    let r = (first_row a).row in
    later_same who (set_account m a.address r) xs h.1 ∙ other_account m a.address who (unless_zero (row.Account r)) (not_at who a h.0)

none_special : (who : Address) (xs : List FirstAccount) → AllAbove who xs → has_special who xs ≡ false
none_special who [] h = refl
none_special who (a ∷ xs) h = ap (λ b. (b && (a.row.status == 2)) || has_special who xs) (not_at who a h.0) ∙ none_special who xs h.1

-- an account that does not participate, with a balance
abbrev IsApart : ℕ → AccountRow → Type 0
IsApart balance r = (r.status ≡ NotParticipating) × (r.balance ≡ balance)

seated_apart : (m : RowMap) (a : FirstAccount) (who : Address) → same_address a.address who ≡ true → a.row.status ≡ 2 → IsApart a.row.balance (account (set_account m a.address (first_row a).row) who)
seated_apart m a who e two =
    let r = (first_row a).row in
    let status : r.status ≡ NotParticipating = ap status_of two in
    at_set (λ o. IsApart a.row.balance (account_in o)) m (key.Account a.address) (unless_zero (row.Account r)) (key.Account who)
    (λ _. at_unless (IsApart a.row.balance) r (status, refl) (λ z. absurd (no_zero r status z)))
    (λ f. absurd (let x : false ≡ true = sym f ∙ same_is a.address who ∙ e in cc))

begun_special : (who : Address) (m : RowMap) (xs : List FirstAccount) → rises (addresses_of xs) ≡ true → has_special who xs ≡ true → IsApart (balance_of who xs) (account (seated m (map first_row xs)) who)
begun_special who m [] h e = absurd (let x : false ≡ true = e in cc)
begun_special who m (a ∷ xs) h e = by_test (same_address a.address who) refl e (begun_special who (set_account m a.address (first_row a).row) xs (rest_rises a xs h))
  where
    one_is : (b c : Bool) → (b || c) ≡ true → c ≡ false → b ≡ true
    one_is true c e f = refl
    one_is false c e f = sym f ∙ e

    by_test : (b : Bool) → same_address a.address who ≡ b → ((b && (a.row.status == 2)) || has_special who xs) ≡ true
        → (has_special who xs ≡ true → IsApart (balance_of who xs) (account (seated (set_account m a.address (first_row a).row) (map first_row xs)) who)) → IsApart (if b then a.row.balance else balance_of who xs) (account (seated (set_account m a.address (first_row a).row) (map first_row xs)) who)
    by_test true t e more =
        let at : a.address ≡ who = ap (λ (x : List ℕ). record { 0 = x }) (same_name a.address.0 who.0 t) in
        let above : AllAbove who xs = subst (λ w. AllAbove w xs) at (all_above a xs h) in
        let two : a.row.status ≡ 2 = eqb-true a.row.status 2 (one_is (a.row.status == 2) (has_special who xs) e (none_special who xs above)) in
        subst (IsApart a.row.balance) (sym (later_same who (set_account m a.address (first_row a).row) xs above)) (seated_apart m a who t two)
    by_test false t e more = more e

-- ---- the state

least_interval : (n : ℕ) → 1 ≤ interval_of n
least_interval n = by_test (n == 0) refl
  where
    by_test : (b : Bool) → (n == 0) ≡ b → 1 ≤ (if b then 500000 else n)
    by_test true e = omega arith
    by_test false e = let z : n ≡ 0 → ⊥ = eqb-false n 0 e in omega (arith, z)

pub start_is_sound : StartIsSound
start_is_sound input g is =
    let xs = is.fields.accounts in
    let good = is.good in
    let says = is.says in
    let head = says.header in
    let rows_are : begun xs ≡ bare (start g).rows = sym (bare_accounts (from_entries []) g.accounts ∙ ap (λ m. seated m g.accounts) bare_nothing ∙ ap (seated nothing) says.accounts) in
    let level : 0 ≡ g.header.level = sym (ap (λ (h : Header). h.level) head) in
    let counter : 0 ≡ g.header.counter = sym (ap (λ (h : Header). h.counter) head) in
    let round : g.header.round ≡ 0 = ap (λ (h : Header). h.round) head in
    let recalc : g.header.recalc ≡ 1 = ap (λ (h : Header). h.recalc) head in
    let rate : g.header.rate ≡ 0 = ap (λ (h : Header). h.rate) head in
    let residue : g.header.residue ≡ 0 = ap (λ (h : Header). h.residue) head in
    let k = begun_keeps xs good.1 in
    let ordered = good.0.0.0.0 in
    let both = and_parts (has_special is.fields.sink xs) (has_special is.fields.pool xs) (and_parts (not (bytes_eq is.fields.sink.0 is.fields.pool.0)) (has_special is.fields.sink xs && has_special is.fields.pool xs) good.0.0.0.1).1 in
    let sink : IsApart (balance_of is.fields.sink xs) (account (begun xs) is.fields.sink) = begun_special is.fields.sink nothing xs ordered both.0 in
    let pool : IsApart (balance_of is.fields.pool xs) (account (begun xs) is.fields.pool) = begun_special is.fields.pool nothing xs ordered both.1 in
    let purse : least_pool ≤ (account (begun xs) is.fields.pool).balance = omega (arith, pool.1, good.0.0.1) in
    let nothing_due : g.header.rate * (g.header.recalc - g.header.round - 1) ≡ 0 = ap (λ n. n * (g.header.recalc - g.header.round - 1)) rate ∙ zero-mul (g.header.recalc - g.header.round - 1) in
    let pool_is : (account (begun xs) is.fields.pool) ≡ account (bare (start g).rows) g.chain.special.pool = ap₂ account rows_are (sym says.pool) in
    let sink_is : (account (begun xs) is.fields.sink) ≡ account (bare (start g).rows) g.chain.special.sink = ap₂ account rows_are (sym says.sink) in
    let few : money 0 (begun xs) ≤ max_balance = omega (arith, seated_money nothing xs, no_money, good.1) in
    let rows : SoundRows 0 0 (Some g.chain.special) (bare (start g).rows) = record {
      money = subst (λ m. money 0 m ≤ max_balance) rows_are few;
      bases = subst (AllBased 0) rows_are (k.bases (λ q r e. absurd (no_row q (row.Account r) e)));
      ranges = subst AllInRange rows_are (k.ranges (λ q r e. absurd (no_row q r e)));
      resources = subst (ResourcesAgree 0) rows_are (resources_agree 0 0 0 nothing (begun xs) k (omega arith) resources_none);
      holdings = λ id. subst (λ m. total (holding_of id) m ≡ total (issued_of id) m) rows_are (k.sums (holding_of id) (λ _ _. refl) ∙ total_none (holding_of id) ∙ sym (k.sums (issued_of id) (λ _ _. refl) ∙ total_none (issued_of id)));
      counts = λ who. subst (λ m. CountsAgree m who) rows_are (counts_agree 0 nothing (begun xs) who k (counts_none who));
      sink = ap (λ (r : AccountRow). r.status) (sym sink_is) ∙ sink.0;
      pool = ap (λ (r : AccountRow). r.status) (sym pool_is) ∙ pool.0;
    } in
    record {
      rows = subst (λ n. SoundRows n g.header.counter (Some g.chain.special) (bare (start g).rows)) level (subst (λ n. SoundRows 0 n (Some g.chain.special) (bare (start g).rows)) counter rows);
      interval = subst (λ n. 1 ≤ n) (sym says.interval) (least_interval is.fields.interval);
      recalc = omega (arith, round, recalc);
      fund = omega (arith, residue, nothing_due, purse, ap (λ (r : AccountRow). r.balance) pool_is);
    }
