-- The rows that a generated chain begins with are as they should be.
use Rattle.std.proofs.Common.{◌≡◌, ◌∙◌, ◌≤◌, ◌<◌, ◌+◌, ℕ, zero, suc, refl, sym, ap, subst, arith, List, [], ◌∷◌, map, Option, Some, None, Bool, true, false, cond, if◌then◌else◌, option_map, is_some, true≢false, nat_le, nat_lt, ◌⊎◌, inl, inr, get_or, replicate, ◌-◌, leb-true, ltb-true, lit≤}
use Rattle.std.specs.BTreeMap.{is_at}
use Rattle.std.specs.FinMap.{FinMap, from_entries, get, get-empty}
use Rattle.std.specs.Ordering.{eq_by_cmp}
use Rattle.std.specs.Cmp.Lexicographic.{same_text}
use Rattle.std.proofs.lemmas.Bool.{and_parts}
use Rattle.al_base.specs.declared.address.Address.{Address}
use Rattle.std.specs.List.{AllByRecursion, range_with_len}
use Rattle.al_base.specs.declared.account.Special.{Special}
use Rattle.al_base.specs.declared.key.Key.{Key}
use Rattle.al_base.specs.declared.key.Key.TheVariants as key
use Rattle.al_base.specs.Keys.{key_cmp}
use Rattle.al_deltas.specs.Queue.{stored_at}
use Rattle.al_eval.specs.Start.{start_rows, with_account, with_accounts}
use Rattle.al_generator.specs.Draws.{user}
use Rattle.al_generator.specs.Genesis.{first_account, generated_genesis, pool, pool_opening, sink, sink_opening, user_opening}
use Rattle.al_genesis.specs.Genesis.{first_row}
use Rattle.al_genesis.specs.declared.genesis.GenesisRow.{GenesisRow}
use Rattle.al_rows.specs.declared.row.Row.{Row}
use Rattle.al_rows.specs.declared.row.Row.TheVariants as row
use Rattle.al_rows.specs.declared.stored.Stored.{Stored}
use Rattle.al_rows.specs.Rows.{account_in, bare, is_zero, unless_zero}
use Rattle.al_rows.proofs.Keys.{exact_keys, keys_total}
use Rattle.al_rows.proofs.Maps.{get-map_entries, get-set_at}
use Rattle.al_overlay.proofs.Overlays.{itself_at, same_key, turned_at}
use Rattle.al_resources.proofs.Recounts.{none_some}
use Rattle.al_rows.specs.declared.account.AccountRow.{AccountRow}
use Rattle.al_taken.proofs.Standings.{Good, IsFew, Most, Poor, Rich, Standing, good_user, is_special, is_user, row_stands, zero_balance}
use Rattle.al_taken.proofs.AllHere.{Known}
use Rattle.al_taken.proofs.Bodies.{Fits, most}
use Rattle.al_taken.proofs.Events.{user_is}

-- before any transaction
abbrev pub nothing : Known
nothing = record { count = 0; asset = None; made = None; app = None }

abbrev pub specials : Special
specials = record { sink = sink; pool = pool }

abbrev low : Most
low = most nothing 0

low_few : IsFew low
low_few = record { money = omega arith; boxed = omega arith }

-- the standing of an account that is there
abbrev Weak : Bool → Bool → Option Row → Type 0
Weak true special o = is_some o ≡ true → Rich low (account_in o)
Weak false true o = Unit {0}
Weak false false o = Poor low false o

weak_of : (user special : Bool) (o : Option Row) → Standing user special low false o → Weak user special o
weak_of true special o h = λ e. h
weak_of false true o h = tt
weak_of false false o h = h

weak_none : (user special : Bool) → Weak user special None
weak_none true special = λ e. absurd (true≢false (sym e))
weak_none false true = tt
weak_none false false = record {
  counts = record { held = omega arith; created = omega arith; opted = refl; pages = refl; uints = refl; slices = refl; boxed = omega arith; bytes = omega arith };
  there = inl (refl, refl);
}

-- what stands under a key
abbrev Fine : Key → Option Row → Type 0
Fine (key.Account a) o = Weak (is_user a) (is_special specials a) o
Fine (key.Resource a id) o = o ≡ None
Fine (key.Box app name) o = o ≡ None

abbrev row_of : Option Stored → Option Row
row_of o = option_map (λ s. s.row) o

abbrev AllFine : FinMap key_cmp Stored → Type 0
AllFine m = (q : Key) → Fine q (row_of (get m q))

abbrev IsFair : GenesisRow → Type 0
IsFair a = Good (is_user a.address) (is_special specials a.address) low a.row

stored_row : (o : Option Row) → row_of (stored_at 0 o) ≡ o
stored_row None = refl
stored_row (Some r) = refl

one_fine : (m : FinMap key_cmp Stored) (a : GenesisRow) → IsFair a → AllFine m → AllFine (with_account m a)
one_fine m a fair all q = subst (λ o. Fine q (row_of o)) (sym (get-set_at keys_total m k v q)) (by_key (is_at (key_cmp k) q) (turned_at k q) refl)
  where
    k : Key
    k = key.Account a.address

    v : Option Stored
    v = stored_at 0 (unless_zero (row.Account a.row))

    by_key : (b : Bool) → eq_by_cmp key_cmp q k ≡ is_at (key_cmp k) q → is_at (key_cmp k) q ≡ b → Fine q (row_of (cond (eq_by_cmp key_cmp q k) v (get m q)))
    by_key true t e =
        subst (λ b. Fine q (row_of (cond b v (get m q)))) (sym (t ∙ e))
        (subst (λ p. Fine p (row_of v)) (same_key k q e)
        (subst (Fine k) (sym (stored_row (unless_zero (row.Account a.row))))
        (weak_of (is_user a.address) (is_special specials a.address) (unless_zero (row.Account a.row)) (row_stands (is_user a.address) (is_special specials a.address) low false a.row low_few fair (is_zero (row.Account a.row)) refl))))
    by_key false t e = subst (λ b. Fine q (row_of (cond b v (get m q)))) (sym (t ∙ e)) (all q)

all_fine : (rows : List GenesisRow) (m : FinMap key_cmp Stored) → AllByRecursion IsFair rows → AllFine m → AllFine (with_accounts m rows)
all_fine [] m fair h = h
all_fine (a ∷ rows) m fair h = all_fine rows (with_account m a) fair.1 (one_fine m a fair.0 h)

none_fine : AllFine (from_entries [])
none_fine q = subst (λ o. Fine q (row_of o)) (sym (get-empty key_cmp q)) (by_key q)
  where
    by_key : (q : Key) → Fine q None
    by_key (key.Account a) = weak_none (is_user a) (is_special specials a)
    by_key (key.Resource a id) = refl
    by_key (key.Box app name) = refl

sink_fair : IsFair (first_row (first_account sink_opening))
unfolding is_user
sink_fair = tt

pool_fair : IsFair (first_row (first_account pool_opening))
unfolding is_user
pool_fair = tt

user_fair : (i : ℕ) → i < 32 → IsFair (first_row (first_account (user_opening i)))
user_fair i l = good_user specials low (user i) (first_row (first_account (user_opening i))).row (user_is i l) (record {
  counts = record { held = omega arith; created = omega arith; opted = refl; pages = refl; uints = refl; slices = refl; boxed = omega arith; bytes = omega arith };
  active = refl;
  money = omega arith;
})

users_fair : (i n : ℕ) → i + n ≤ 32 → AllByRecursion IsFair (map first_row (map first_account (map user_opening (range_with_len i n))))
users_fair i zero l = tt
users_fair i (suc n) l = (user_fair i (omega arith), users_fair (i + 1) n (omega (arith, l)))

begun : AllFine (start_rows generated_genesis.accounts)
begun = all_fine generated_genesis.accounts (from_entries []) (sink_fair, (pool_fair, users_fair 0 32 (lit≤ tt))) none_fine

-- ---- each user is there

abbrev IsThere : FinMap key_cmp Stored → Address → Type 0
IsThere m a = is_some (row_of (get m (key.Account a))) ≡ true

nonzero : (r : AccountRow) → 1 ≤ r.balance → is_zero (row.Account r) ≡ false
nonzero r l = by_test (is_zero (row.Account r)) refl
  where
    by_test : (t : Bool) → is_zero (row.Account r) ≡ t → t ≡ false
    by_test false e = refl
    by_test true e = absurd (omega (arith, zero_balance r e))

-- an account that is set is there, and so is what was there
one_there : (m : FinMap key_cmp Stored) (a : GenesisRow) (who : Address) → 1 ≤ a.row.balance → (a.address ≡ who) ⊎ IsThere m who → IsThere (with_account m a) who
one_there m a who some h = subst (λ o. is_some (row_of o) ≡ true) (sym (get-set_at keys_total m k (stored_at 0 (unless_zero (row.Account a.row))) q)) (by_key (is_at (key_cmp k) q) (turned_at k q) refl h)
  where
    k : Key
    k = key.Account a.address

    q : Key
    q = key.Account who

    v : Option Stored
    v = stored_at 0 (unless_zero (row.Account a.row))

    set : is_some (row_of v) ≡ true
    set = ap is_some (stored_row (unless_zero (row.Account a.row))) ∙ ap (λ (b : Bool). is_some (if b then None else Some (row.Account a.row))) (nonzero a.row some)

    by_key : (b : Bool) → eq_by_cmp key_cmp q k ≡ is_at (key_cmp k) q → is_at (key_cmp k) q ≡ b → (a.address ≡ who) ⊎ IsThere m who → is_some (row_of (cond (eq_by_cmp key_cmp q k) v (get m q))) ≡ true
    by_key true t e g = ap (λ b. is_some (row_of (cond b v (get m q)))) (t ∙ e) ∙ set
    by_key false t e (inl same) = absurd (true≢false (sym (ap (λ (x : Address). is_at (key_cmp k) (key.Account x)) (sym same) ∙ itself_at k) ∙ e))
    by_key false t e (inr old) = ap (λ b. is_some (row_of (cond b v (get m q)))) (t ∙ e) ∙ old

users : ℕ → ℕ → List GenesisRow
users i n = map first_row (map first_account (map user_opening (range_with_len i n)))

users_there : (n i j : ℕ) (m : FinMap key_cmp Stored) → j < i + n → (i ≤ j) ⊎ IsThere m (user j) → IsThere (with_accounts m (users i n)) (user j)
unfolding users
users_there zero i j m l (inl h) = absurd (omega arith)
users_there zero i j m l (inr h) = h
users_there (suc n) i j m l (inl h) = by_place (users_there n (i + 1) j (with_account m (first_row (first_account (user_opening i)))) (omega (arith, l))) (i_split i j h)
  where
    i_split : (a b : ℕ) → a ≤ b → (a ≡ b) ⊎ (a + 1 ≤ b)
    i_split a b l = grind arith

    by_place : ((i + 1 ≤ j) ⊎ IsThere (with_account m (first_row (first_account (user_opening i)))) (user j) → IsThere (with_accounts m (users i (suc n))) (user j)) → (i ≡ j) ⊎ (i + 1 ≤ j) → IsThere (with_accounts m (users i (suc n))) (user j)
    by_place later (inl same) = later (inr (one_there m (first_row (first_account (user_opening i))) (user j) (lit≤ tt) (inl (ap user same))))
    by_place later (inr more) = later (inl more)
users_there (suc n) i j m l (inr h) = users_there n (i + 1) j (with_account m (first_row (first_account (user_opening i)))) (omega (arith, l)) (inr (one_there m (first_row (first_account (user_opening i))) (user j) (lit≤ tt) (inr h)))

-- a user by its number
user_of : (a : Address) → is_user a ≡ true → (j : ℕ) × (j < 32) × (user j ≡ a)
unfolding is_user
user_of a is =
    let h = get_or a.0 0 0 in
    let p = and_parts (nat_le 16 h) _ is in
    let q = and_parts (nat_lt h 48) _ p.1 in
    let least : 16 ≤ h = leb-true 16 h p.0 in
    let most : h < 48 = ltb-true h 48 q.0 in
    let same : 16 + (h - 16) ≡ h = omega arith in
    let bytes : a.0 ≡ replicate 32 h = same_text a.0 (replicate 32 h) (sym q.1) in
    (h - 16, omega arith, ap (λ n. record { 0 = replicate 32 n }) same ∙ ap (λ (x : List ℕ). record { 0 = x }) (sym bytes))

user_there : (a : Address) → is_user a ≡ true → IsThere (start_rows generated_genesis.accounts) a
unfolding users
user_there a is =
    let u = user_of a is in
    subst (IsThere (start_rows generated_genesis.accounts)) u.2 (users_there 32 0 u.0 (with_account (with_account (from_entries []) (first_row (first_account sink_opening))) (first_row (first_account pool_opening))) u.1 (inl (omega arith)))

standing : (user special : Bool) (o : Option Row) → (user ≡ true → is_some o ≡ true) → Weak user special o → Standing user special low false o
standing true special o some h = h (some refl)
standing false true o some h = tt
standing false false o some h = h

fine_bare : (q : Key) → Fine q (get (bare (start_rows generated_genesis.accounts)) q)
fine_bare q = subst (Fine q) (sym (get-map_entries exact_keys (λ k (s : Stored). s.row) (start_rows generated_genesis.accounts) q)) (begun q)

pub begins : Fits specials nothing (bare (start_rows generated_genesis.accounts))
begins = record {
  boxes = 0;
  stands = λ a. standing (is_user a) (is_special specials a) (get (bare (start_rows generated_genesis.accounts)) (key.Account a)) (λ is. ap is_some (get-map_entries exact_keys (λ k (s : Stored). s.row) (start_rows generated_genesis.accounts) (key.Account a)) ∙ user_there a is) (fine_bare (key.Account a));
  all_here = record {
    fresh = λ a id l. fine_bare (key.Resource a id);
    asset = tt;
    made = tt;
    full = λ app name r e. absurd (none_some r (sym (fine_bare (key.Box app name)) ∙ e));
    used = omega arith;
  };
}
