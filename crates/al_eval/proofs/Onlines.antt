-- What consensus may ask of a round, by its rows, and how it goes on to the next.
use Rattle.std.proofs.Common.{◌≡◌, ℕ, refl, sym, ap, ap₂, ◌∙◌, subst, Ok, List, [], ◌∷◌, map, Option, Some, None, option_map, Bool, true, false, cond, if◌then◌else◌, T, ◌&&◌, Ordering, Less, Equal, Greater, is_eq, is_lt, nat_cmp, eqb-true}
use Rattle.std.proofs.lemmas.Bool.{and_parts}
use Rattle.std.proofs.lemmas.Cmp.{nat_cmp_total}
use Rattle.std.proofs.lemmas.Slice.Eq.{bytes_eq-Decides}
use Rattle.std.specs.BTreeMap.{is_at}
use Rattle.std.specs.Cmp.{eq_by_cmp_equiv}
use Rattle.std.specs.FinMap.{empty, entries, entries_sorted, find, get, get-empty, get-entries, get-from_entries, get-insert, get-remove, insert, is_sorted, same_map, from_entries}
use Rattle.std.specs.FinMap.Entries.{below_all}
use Rattle.std.specs.List.{AllByRecursion, cons_option, filter_map}
use Rattle.std.specs.List.Sorted.{IsStrictlySortedBy}
use Rattle.std.specs.Map.{lookup}
use Rattle.std.specs.Ordering.{eq_by_cmp}
use Rattle.al_base.specs.declared.address.Address.{Address}
use Rattle.al_base.specs.declared.key.Key.{Key}
use Rattle.al_base.specs.declared.key.Key.TheVariants as key
use Rattle.al_base.specs.declared.online.OnlineChange.{OnlineChange}
use Rattle.al_base.specs.declared.online.OnlineData.{OnlineData}
use Rattle.al_base.specs.Keys.{address_cmp, key_cmp}
use Rattle.al_block.specs.declared.block.Block.{Block}
use Rattle.al_block.specs.declared.header.Header.{Header}
use Rattle.al_rewards.specs.Totals.{all_units}
use Rattle.al_rows.specs.declared.account.AccountRow.{AccountRow}
use Rattle.al_rows.specs.declared.row.Row.{Row}
use Rattle.al_rows.specs.declared.row.Row.TheVariants as row
use Rattle.al_rows.specs.Finite.{or_below}
use Rattle.al_rows.specs.Rows.{RowMap, account_in, bare, set_account, unless_zero}
use Rattle.al_overlay.specs.Accounts.{same_address}
use Rattle.al_moves.specs.Online.{AreOnlineChanges, online_at, online_change_of, online_of, same_online}
use Rattle.al_moves.proofs.Monies.{account-set, same_is}
use Rattle.al_online.specs.Stakes.{OnlineMap, Snap, first_snap, next_snap, set_online, with_changes}
use Rattle.al_online.proofs.Snaps.{addresses_total, exact_addresses}
use Rattle.al_genesis.specs.declared.genesis_fields.FirstAccount.{FirstAccount}
use Rattle.al_genesis.specs.declared.genesis.Genesis.{Genesis}
use Rattle.al_genesis.specs.declared.genesis.GenesisRow.{GenesisRow}
use Rattle.al_genesis.specs.Genesis.{IsGenesis, addresses_of, first_row}
use Rattle.al_msgpack.specs.Rising.{rises}
use Rattle.al_tail.specs.Past.{entry_of}
use Rattle.al_eval.specs.Sound.{StartKeepsLast}
use Rattle.al_eval.specs.Snaps.{all_online, online_in, snap_of}
use Rattle.al_eval.specs.Start.{start_online, start_rows}
use Rattle.al_eval.specs.State.{KeepsLast, State, StepKeepsLast, after, before_of, counts_in, last_snap, step}
use Rattle.al_eval.specs.Steps.{block_rows}
use Rattle.al_eval.proofs.Chains.{bare_stamped, step_ok}
use Rattle.al_eval.proofs.Firsts.{AllAbove, all_above, bare_accounts, bare_nothing, nothing, rest_rises, seated}
use Rattle.al_resources.proofs.Steadies.{at_unless}

equal : (r : Ordering) → is_eq r ≡ true → r ≡ Equal
equal Less p = cc
equal Equal p = refl
equal Greater p = cc

both_first : (a b : Bool) → T (a && b) → T a
both_first true b p = tt
both_first false b p = p

both_second : (a b : Bool) → T (a && b) → T b
both_second true b p = p
both_second false b p = absurd p

-- ---- the accounts that are online, over all rows

-- a key below all is none of them
none_itself : (k : Key) (es : List (Key × Row)) → T (below_all key_cmp k es) → find key_cmp k es ≡ None
none_itself k [] h = refl
none_itself k (e ∷ es) h =
    elim (key_cmp k e.0) as (λ r. T (is_lt r && below_all key_cmp k es) → cond (is_eq r) (Some e.1) (find key_cmp k es) ≡ None) [
      | Less ↦ λ s. none_itself k es s
      | Equal ↦ λ s. absurd s
      | Greater ↦ λ s. absurd s
    ] h

none_behind : (who a : Address) (es : List (Key × Row)) → address_cmp who a ≡ Equal → T (below_all key_cmp (key.Account a) es) → find key_cmp (key.Account who) es ≡ None
none_behind who a es e h = subst (λ w. find key_cmp (key.Account w) es ≡ None) (sym (exact_addresses who a e)) (none_itself (key.Account a) es h)

-- those that are listed
abbrev listed : List (Key × Row) → List (Address × OnlineData)
listed es = filter_map (λ e. online_in e.0 e.1) es

-- what consensus knows of an account by the row that was found
abbrev known : Option Row → Option OnlineData
known o = online_of (account_in o)

module _ (who : Address) (es : List (Key × Row)) (rest : find address_cmp who (listed es) ≡ known (find key_cmp (key.Account who) es)) where
  found_account : (a : Address) (r : Row) → T (below_all key_cmp (key.Account a) es) → (t : Bool) → is_eq (address_cmp who a) ≡ t → (o : Option OnlineData) → known (Some r) ≡ o
      → find address_cmp who (cons_option (option_map (λ d. (a, d)) o) (listed es)) ≡ known (cond t (Some r) (find key_cmp (key.Account who) es))
  found_account a r below true e None is = rest ∙ ap known (none_behind who a es (equal (address_cmp who a) e) below) ∙ sym is
  found_account a r below true e (Some d) is = ap (λ b. cond b (Some d) (find address_cmp who (listed es))) e ∙ sym is
  found_account a r below false e None is = rest
  found_account a r below false e (Some d) is = ap (λ b. cond b (Some d) (find address_cmp who (listed es))) e ∙ rest

  found_key : (k : Key) (r : Row) → T (below_all key_cmp k es) → find address_cmp who (cons_option (online_in k r) (listed es)) ≡ known (cond (is_eq (key_cmp (key.Account who) k)) (Some r) (find key_cmp (key.Account who) es))
  found_key (key.Account a) r below = found_account a r below (is_eq (address_cmp who a)) refl (known (Some r)) refl
  found_key (key.Resource a id) r below = rest
  found_key (key.Box app name) r below = rest

found_online : (who : Address) (es : List (Key × Row)) → T (is_sorted key_cmp es) → find address_cmp who (listed es) ≡ known (find key_cmp (key.Account who) es)
found_online who [] h = refl
found_online who (e ∷ es) h = found_key who es (found_online who es (both_second (below_all key_cmp e.0 es) (is_sorted key_cmp es) h)) e.0 e.1 (both_first (below_all key_cmp e.0 es) (is_sorted key_cmp es) h)

-- what consensus knows of an account
pub online_is : (m : RowMap) (who : Address) → get (all_online m) who ≡ online_at m who
online_is m who = get-from_entries addresses_total (listed (entries m)) who ∙ found_online who (entries m) (entries_sorted m) ∙ ap known (sym (get-entries m (key.Account who)))

-- ---- one round more

get-set : (a : Address) (now : Option OnlineData) (m : OnlineMap) (who : Address) → get (set_online a now m) who ≡ cond (eq_by_cmp address_cmp who a) now (get m who)
get-set a None m who = get-remove addresses_total m a who
get-set a (Some d) m who = get-insert addresses_total m a d who

none_later : (who a : Address) (es : List (Address × Option OnlineData)) → address_cmp who a ≡ Equal → AllByRecursion (λ b. address_cmp a b ≡ Less) (map (λ e. e.0) es) → lookup (is_at (address_cmp who)) es ≡ None
none_later who a [] e h = refl
none_later who a (x ∷ es) e h =
    let less : address_cmp who x.0 ≡ Less = subst (λ w. address_cmp w x.0 ≡ Less) (sym (exact_addresses who a e)) h.0 in
    ap (λ r. cond (is_eq r) (Some x.1) (lookup (is_at (address_cmp who)) es)) less ∙ none_later who a es e h.1

-- an account after changes: its own, or what it was
changed_is : (cs : List OnlineChange) (m : OnlineMap) (who : Address) → IsStrictlySortedBy address_cmp (map (λ e. e.0) (map online_change_of cs)) → get (with_changes cs m) who ≡ or_below (lookup (is_at (address_cmp who)) (map online_change_of cs)) (get m who)
unfolding IsStrictlySortedBy
changed_is [] m who h = refl
changed_is (c ∷ cs) m who h =
    changed_is cs (set_online c.address c.now m) who h.1
    ∙ ap (or_below (lookup (is_at (address_cmp who)) (map online_change_of cs))) (get-set c.address c.now m who)
    ∙ by_test (is_eq (address_cmp who c.address)) refl
  where
    later : Option (Option OnlineData)
    later = lookup (is_at (address_cmp who)) (map online_change_of cs)

    by_test : (b : Bool) → is_eq (address_cmp who c.address) ≡ b → or_below later (cond b c.now (get m who)) ≡ or_below (cond b (Some c.now) later) (get m who)
    by_test true e = ap (λ o. or_below o c.now) (none_later who c.address (map online_change_of cs) (equal (address_cmp who c.address) e) h.0)
    by_test false e = refl

same_data : (a b : OnlineData) → same_online (Some a) (Some b) ≡ true → a ≡ b
same_data a b h =
    let p = and_parts _ _ h in
    let q = and_parts _ _ p.0 in
    let r = and_parts _ _ q.0 in
    let s = and_parts _ _ r.0 in
    let t = and_parts _ _ s.0 in
    let u = and_parts _ _ t.0 in
    ap (λ n. record a { balance = n }) (eqb-true a.balance b.balance u.0)
    ∙ ap (λ n. record a { balance = b.balance; base = n }) (eqb-true a.base b.base u.1)
    ∙ ap (λ n. record a { balance = b.balance; base = b.base; first = n }) (eqb-true a.first b.first t.1)
    ∙ ap (λ n. record a { balance = b.balance; base = b.base; first = b.first; last = n }) (eqb-true a.last b.last s.1)
    ∙ ap (λ n. record a { balance = b.balance; base = b.base; first = b.first; last = b.last; dilution = n }) (eqb-true a.dilution b.dilution r.1)
    ∙ ap (λ k. record a { balance = b.balance; base = b.base; first = b.first; last = b.last; dilution = b.dilution; vote = k }) ((bytes_eq-Decides a.vote b.vote).0 q.1)
    ∙ ap (λ (k : List ℕ). record { balance = b.balance; base = b.base; first = b.first; last = b.last; dilution = b.dilution; vote = b.vote; selection = k }) ((bytes_eq-Decides a.selection b.selection).0 p.1)

same_known : (a b : Option OnlineData) → same_online a b ≡ true → a ≡ b
same_known None None h = refl
same_known None (Some b) h = absurd (let x : false ≡ true = h in cc)
same_known (Some a) None h = absurd (let x : false ≡ true = h in cc)
same_known (Some a) (Some b) h = ap Some (same_data a b h)

under : (b : Bool) (o p : Option OnlineData) → (b ≡ true → o ≡ p) → or_below (if b then None else Some p) o ≡ p
under true o p h = h refl
under false o p h = refl

-- what differs leads from the accounts of one round to those of the next
pub snap_follows : (low level : ℕ) (old now : RowMap) (cs : List OnlineChange) → AreOnlineChanges old now (map online_change_of cs) → snap_of level now ≡ next_snap level cs (snap_of low old)
snap_follows low level old now cs h = ap (λ (o : OnlineMap). record { level = level; online = o }) (same_map addresses_total exact_addresses (all_online now) (with_changes cs (all_online old)) (λ who.
    online_is now who
    ∙ sym (changed_is cs (all_online old) who h.ordered
    ∙ ap₂ or_below (h.each who) (online_is old who)
    ∙ under (same_online (online_at old who) (online_at now who)) (online_at old who) (online_at now who) (same_known (online_at old who) (online_at now who)))))

-- ---- round 0

tied_is : (who a : Address) → eq_by_cmp address_cmp who a ≡ same_address a who
tied_is who a = (eq_by_cmp_equiv addresses_total).symm who a ∙ same_is a who

online-set : (m : RowMap) (a who : Address) (r : AccountRow) → online_at (set_account m a r) who ≡ cond (same_address a who) (online_of r) (online_at m who)
online-set m a who r = ap online_of (account-set m a who (unless_zero (row.Account r))) ∙ by_test (same_address a who)
  where
    by_test : (b : Bool) → known (cond b (unless_zero (row.Account r)) (get m (key.Account who))) ≡ cond b (online_of r) (online_at m who)
    by_test true = at_unless (λ s. online_of s ≡ online_of r) r refl (λ z. sym (ap online_of z))
    by_test false = refl

seated_online : (xs : List GenesisRow) (o : OnlineMap) (m : RowMap) → ((who : Address) → get o who ≡ online_at m who) → (who : Address) → get (with_changes (start_online xs) o) who ≡ online_at (seated m xs) who
seated_online [] o m h who = h who
seated_online (a ∷ xs) o m h who =
    seated_online xs (set_online a.address (online_of a.row) o) (set_account m a.address a.row) (λ q.
    get-set a.address (online_of a.row) o q
    ∙ ap₂ (λ b d. cond b (online_of a.row) d) (tied_is q a.address) (h q)
    ∙ sym (online-set m a.address q a.row)) who

-- the accounts that are online after round 0
pub start_snap : (level : ℕ) (xs : List GenesisRow) → first_snap level (start_online xs) ≡ snap_of level (bare (start_rows xs))
start_snap level xs =
    let rows_are : bare (start_rows xs) ≡ seated nothing xs = bare_accounts (from_entries []) xs ∙ ap (λ m. seated m xs) bare_nothing in
    ap (λ (o : OnlineMap). record { level = level; online = o }) (same_map addresses_total exact_addresses (with_changes (start_online xs) empty) (all_online (bare (start_rows xs))) (λ who.
    seated_online xs empty nothing (λ q. get-empty address_cmp q ∙ sym (ap known (get-empty key_cmp (key.Account q)))) who
    ∙ ap (λ m. online_at m who) (sym rows_are)
    ∙ sym (online_is (bare (start_rows xs)) who)))

above_all : (who : Address) (xs : List FirstAccount) → AllAbove who xs → AllByRecursion (λ b. address_cmp who b ≡ Less) (map (λ c. c.address) (start_online (map first_row xs)))
above_all who [] h = tt
above_all who (a ∷ xs) h = (h.0, above_all who xs h.1)

rises_from : (xs : List FirstAccount) → rises (addresses_of xs) ≡ true → IsStrictlySortedBy address_cmp (map (λ c. c.address) (start_online (map first_row xs)))
unfolding IsStrictlySortedBy
rises_from [] h = tt
rises_from (a ∷ xs) h = (above_all a.address xs (all_above a xs h), rises_from xs (rest_rises a xs h))

-- a genesis names each account once
pub start_rises : (input : List ℕ) (g : Genesis) → IsGenesis input g → IsStrictlySortedBy address_cmp (map (λ c. c.address) (start_online g.accounts))
start_rises input g is = subst (λ xs. IsStrictlySortedBy address_cmp (map (λ c. c.address) (start_online xs))) (sym is.says.accounts) (rises_from is.fields.accounts is.good.0.0.0.0)

-- ---- a state keeps that of its last round

at_itself : (n : ℕ) → eq_by_cmp nat_cmp n n ≡ true
at_itself n = (eq_by_cmp_equiv nat_cmp_total).refl n

pub start_keeps_last : StartKeepsLast
start_keeps_last input g is =
    let s = snap_of g.header.level (bare (start_rows g.accounts)) in
    let round : g.header.round ≡ 0 = ap (λ (h : Header). h.round) is.says.header in
    ap (get (insert empty 0 s)) round ∙ get-insert nat_cmp_total empty 0 s 0 ∙ ap (λ b. cond b (Some s) (get {K = ℕ} {X = Snap} {R = nat_cmp} empty 0)) (at_itself 0)

kept_after : (s : State) (b : Block) (n : RowMap) → KeepsLast (after s b n)
kept_after s b n =
    let x = snap_of b.header.level n in
    get-insert nat_cmp_total s.snaps b.header.round x b.header.round
    ∙ ap (λ t. cond t (Some x) (get s.snaps b.header.round)) (at_itself b.header.round)
    ∙ ap (λ (m : RowMap). Some (snap_of b.header.level m)) (sym (bare_stamped b.header.round s.rows n))

pub step_keeps_last : StepKeepsLast
unfolding step
step_keeps_last s t b e = let h = step_ok s t b (block_rows (before_of s) (all_units (counts_in s)) (map entry_of s.past) b (bare s.rows)) e in subst KeepsLast h.2 (kept_after s b h.0)

-- the rounds after a step are those before, and the new one
pub snaps_after : (s t : State) (b : Block) → step s b ≡ Ok t → t.snaps ≡ insert s.snaps b.header.round (last_snap t)
unfolding step
snaps_after s t b e =
    let h = step_ok s t b (block_rows (before_of s) (all_units (counts_in s)) (map entry_of s.past) b (bare s.rows)) e in
    subst (λ (u : State). u.snaps ≡ insert s.snaps b.header.round (last_snap u)) h.2 (ap (λ (m : RowMap). insert s.snaps b.header.round (snap_of b.header.level m)) (sym (bare_stamped b.header.round s.rows h.0)))
