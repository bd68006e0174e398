-- Registrations of keys and expiry change the status and the keys of one account alone.
use Rattle.std.proofs.Common.{◌≡◌, ◌≢◌, ℕ, ◌+◌, ◌-◌, ◌*◌, ◌/◌, ◌≤◌, min, refl, sym, ap, ◌∙◌, subst, arith, Bool, true, false, not, ◌&&◌, ◌||◌, if◌then◌else◌, cond, nat_lt, nat_le, Option, Some, None, Result, Ok, Err, inl, inr, true≢false}
use Rattle.std.proofs.lemmas.Bool.{and_parts}
use Rattle.std.specs.BTreeMap.{is_at}
use Rattle.std.specs.FinMap.{get}
use Rattle.al_base.specs.declared.account.Status.{Status}
use Rattle.al_base.specs.declared.account.Status.TheVariants.{NotParticipating, Offline, Online}
use Rattle.al_base.specs.declared.address.Address.{Address}
use Rattle.al_base.specs.declared.key.Key.{Key}
use Rattle.al_base.specs.declared.key.Key.TheVariants as key
use Rattle.al_base.specs.Keys.{key_cmp}
use Rattle.al_rewards.specs.declared.share.Share.{Share}
use Rattle.al_rewards.specs.Pending.{is_apart, pending, reward_unit}
use Rattle.al_rows.specs.declared.account.AccountRow.{AccountRow}
use Rattle.al_rows.specs.declared.row.Row.{Row}
use Rattle.al_rows.specs.declared.row.Row.TheVariants as row
use Rattle.al_rows.specs.Finite.{total}
use Rattle.al_rows.specs.Limits.{max_balance}
use Rattle.al_rows.specs.Rows.{AccountInRange, RowMap, account, account_in, is_zero, no_account, no_address, set_account, unless_zero}
use Rattle.al_rows.proofs.Keys.{exact_keys, keys_total}
use Rattle.al_rows.proofs.Maps.{total-set_at}
use Rattle.al_bodies.specs.declared.body.KeyReg.{KeyReg}
use Rattle.al_overlay.specs.declared.rule.Rule.{Rule}
use Rattle.al_overlay.specs.Rules.{plain_rule, too_little}
use Rattle.al_overlay.specs.Accounts.{credited, earned, give, moved, put_account, same_address, share_of, take_in}
use Rattle.al_moves.specs.Keys.{IsKeyRule, KeysAreFair, KeysMove, expired, has_no_keys, is_expired, is_online, keyed, left_status, registered, with_keys, without_keys}
use Rattle.al_moves.specs.Money.{money, worth}
use Rattle.al_moves.specs.Pay.{rekeyed}
use Rattle.al_moves.specs.Resources.{CountsAgree, apps_created_in, apps_opted_in, assets_created_in, assets_held_in, box_bytes_of, boxes_of, byte_slices_in, extra_pages_in, owned, uints_in}
use Rattle.al_moves.proofs.Follows.{IsForOthers, none_weighs, read_back, same_is_true}
use Rattle.al_moves.proofs.Monies.{account-set, empty_pending, money_set, ok_same, pending_apart, pick_ok, put_ok, same_itself, then_ok, worth_with}
use Rattle.al_overlay.proofs.Overlays.{get-set, same_key}

-- ---- nothing is pending

-- a credited account with any balance
none_credited : (level b : ℕ) (r : AccountRow) → earned level (record (credited level r) { balance = b }) ≡ 0
none_credited level b r = omega (arith, worth_with level b r)

none_earned : (level b : ℕ) → earned level (record no_account { base = b }) ≡ earned level no_account
none_earned level b = empty_pending level (share_of (record no_account { base = b })) refl ∙ sym (empty_pending level (share_of no_account) refl)

-- an account is set for which nothing is pending
none_set : (level : ℕ) (m : RowMap) (a : Address) (r : AccountRow) → earned level r ≡ 0 → (b : Address) → (same_address a b ≡ false → earned level (account m b) ≡ 0) → earned level (account (set_account m a r) b) ≡ 0
none_set level m a r here b there = ap (earned level) (account-set m a b (unless_zero (row.Account r))) ∙ by_test (same_address a b) refl
  where
    by_test : (t : Bool) → same_address a b ≡ t → earned level (account_in (cond t (unless_zero (row.Account r)) (get m (key.Account b)))) ≡ 0
    by_test true e = read_back (earned level) (none_earned level) r ∙ here
    by_test false e = there e

itself : (who : Address) → same_address who who ≡ false → ⊥
itself who e = true≢false (sym (same_itself who) ∙ e)

-- who has given
give_none : (level : ℕ) (who : Address) (amount : ℕ) (m k : RowMap) → give level who amount m ≡ Ok k → earned level (account k who) ≡ 0
unfolding give
give_none level who amount m k e =
    let c = credited level (account m who) in
    let r : AccountRow = record c { balance = c.balance - amount } in
    let is : set_account m who r ≡ k = put_ok m who r k (pick_ok (nat_lt c.balance amount) (too_little 40 c.balance amount who) (put_account m who r) k e) in
    subst (λ (x : RowMap). earned level (account x who) ≡ 0) is (none_set level m who r (none_credited level (c.balance - amount) (account m who)) who (λ apart. absurd (itself who apart)))

-- and still where another, or the same, has taken
take_none : (level : ℕ) (to who : Address) (amount : ℕ) (k n : RowMap) → earned level (account k who) ≡ 0 → take_in level to amount k ≡ Ok n → earned level (account n who) ≡ 0
unfolding take_in
take_none level to who amount k n none e =
    let c = credited level (account k to) in
    let r : AccountRow = record c { balance = c.balance + amount } in
    subst (λ (x : RowMap). earned level (account x who) ≡ 0) (put_ok k to r n e) (none_set level k to r (none_credited level (c.balance + amount) (account k to)) who (λ _. none))

pub moved_none : (level : ℕ) (who to : Address) (amount : ℕ) (m n : RowMap) → moved level who to amount m ≡ Ok n → earned level (account n who) ≡ 0
unfolding moved
moved_none level who to amount m n e =
    let t = then_ok (give level who amount m) (λ k. take_in level to amount k) n e in
    take_none level to who amount t.0 n (give_none level who amount m t.0 t.1) t.2

pub rekeyed_none : (level : ℕ) (who to : Address) (m n : RowMap) → earned level (account m who) ≡ 0 → rekeyed who to m ≡ Ok n → earned level (account n who) ≡ 0
unfolding rekeyed
rekeyed_none level who to m n none e = by_test (same_address to no_address) e
  where
    r : AccountRow
    r = record (account m who) { auth = if same_address to who then no_address else to }

    by_test : (t : Bool) → (if t then Ok m else put_account m who r) ≡ Ok n → earned level (account n who) ≡ 0
    by_test true e = subst (λ (x : RowMap). earned level (account x who) ≡ 0) (ok_same m n e) none
    by_test false e = subst (λ (x : RowMap). earned level (account x who) ≡ 0) (put_ok m who r n e) (none_set level m who r none who (λ apart. absurd (itself who apart)))

-- ---- one account is set

no_ok : (r : Rule) (n : RowMap) → ◌≡◌ {A = Result RowMap Rule} (Err r) (Ok n) → ⊥
no_ok r n e = cc

no_err : (m : RowMap) (r : Rule) → ◌≡◌ {A = Result RowMap Rule} (Ok m) (Err r) → ⊥
no_err m r e = cc

same_err : (q r : Rule) → ◌≡◌ {A = Result RowMap Rule} (Err q) (Err r) → r ≡ q
same_err q r e = cc

some_same : (m n : RowMap) → ◌≡◌ {A = Option RowMap} (Some m) (Some n) → m ≡ n
some_same m n e = cc

registered_moves : (round : ℕ) (who : Address) (k : KeyReg) (m n : RowMap) → is_apart (account m who).status ≡ false → registered round who k (account m who) m ≡ Ok n → KeysMove who m n
registered_moves round who k m n part e = by_keys (has_no_keys k) e
  where
    r : AccountRow
    r = account m who

    with : Result RowMap Rule
    with = Ok (set_account m who (with_keys k r))

    by_keys : (t : Bool) → (if t then Ok (set_account m who (without_keys (left_status k) r)) else if not (nat_lt round k.last) then Err (plain_rule 45) else if nat_lt (round + 1) k.first then Err (plain_rule 56) else with) ≡ Ok n → KeysMove who m n
    by_keys true e = record { after = without_keys (left_status k) r; set = sym (ok_same (set_account m who (without_keys (left_status k) r)) n e); same = refl; takes_part = part }
    by_keys false e =
        let late = pick_ok (not (nat_lt round k.last)) (plain_rule 45) (if nat_lt (round + 1) k.first then Err (plain_rule 56) else with) n e in
        let is = pick_ok (nat_lt (round + 1) k.first) (plain_rule 56) with n late in
        record { after = with_keys k r; set = sym (ok_same (set_account m who (with_keys k r)) n is); same = refl; takes_part = part }

pub keyed_moves : (round : ℕ) (who : Address) (k : KeyReg) (m n : RowMap) → keyed round who k m ≡ Ok n → KeysMove who m n
unfolding keyed
keyed_moves round who k m n e = by_status (is_apart (account m who).status) refl e
  where
    by_status : (t : Bool) → is_apart (account m who).status ≡ t → (if t then Err (plain_rule 44) else registered round who k (account m who) m) ≡ Ok n → KeysMove who m n
    by_status true part e = absurd (no_ok (plain_rule 44) n e)
    by_status false part e = registered_moves round who k m n part e

-- ---- what refuses

registered_refused : (round : ℕ) (who : Address) (k : KeyReg) (m : RowMap) (r : Rule) → registered round who k (account m who) m ≡ Err r → IsKeyRule r
registered_refused round who k m r e = by_keys (has_no_keys k) e
  where
    with : RowMap
    with = set_account m who (with_keys k (account m who))

    by_first : (t : Bool) → (if t then Err (plain_rule 56) else Ok with) ≡ Err r → IsKeyRule r
    by_first true e = inr (inr (same_err (plain_rule 56) r e))
    by_first false e = absurd (no_err with r e)

    by_last : (t : Bool) → (if not t then Err (plain_rule 45) else if nat_lt (round + 1) k.first then Err (plain_rule 56) else Ok with) ≡ Err r → IsKeyRule r
    by_last true e = by_first (nat_lt (round + 1) k.first) e
    by_last false e = inr (inl (same_err (plain_rule 45) r e))

    by_keys : (t : Bool) → (if t then Ok (set_account m who (without_keys (left_status k) (account m who))) else if not (nat_lt round k.last) then Err (plain_rule 45) else if nat_lt (round + 1) k.first then Err (plain_rule 56) else Ok with) ≡ Err r → IsKeyRule r
    by_keys true e = absurd (no_err (set_account m who (without_keys (left_status k) (account m who))) r e)
    by_keys false e = by_last (nat_lt round k.last) e

pub keyed_refused : (round : ℕ) (who : Address) (k : KeyReg) (m : RowMap) (r : Rule) → keyed round who k m ≡ Err r → IsKeyRule r
unfolding keyed
keyed_refused round who k m r e = by_status (is_apart (account m who).status) e
  where
    by_status : (t : Bool) → (if t then Err (plain_rule 44) else registered round who k (account m who) m) ≡ Err r → IsKeyRule r
    by_status true e = inl (same_err (plain_rule 44) r e)
    by_status false e = registered_refused round who k m r e

other_number : (number n : ℕ) → number ≢ n → (r : Rule) → r ≡ plain_rule number → r.number ≢ n
other_number number n apart r e is = apart (sym (ap (λ (q : Rule). q.number) e) ∙ is)

-- it is none of the rules on what passes the most
pub key_rule_other : (r : Rule) → IsKeyRule r → (r.number ≢ 41) × (r.number ≢ 53)
key_rule_other r (inl e) = (other_number 44 41 (λ is. absurd (omega arith)) r e, other_number 44 53 (λ is. absurd (omega arith)) r e)
key_rule_other r (inr (inl e)) = (other_number 45 41 (λ is. absurd (omega arith)) r e, other_number 45 53 (λ is. absurd (omega arith)) r e)
key_rule_other r (inr (inr e)) = (other_number 56 41 (λ is. absurd (omega arith)) r e, other_number 56 53 (λ is. absurd (omega arith)) r e)

-- ---- keys that have expired

online_earns : (s : Status) → is_online s ≡ true → is_apart s ≡ false
online_earns Offline e = refl
online_earns Online e = refl
online_earns NotParticipating e = absurd (true≢false (sym e))

expired_earns : (round : ℕ) (r : AccountRow) → is_expired round r ≡ true → is_apart r.status ≡ false
expired_earns round r e = online_earns r.status (and_parts (is_online r.status) (nat_lt 0 r.last) (and_parts (is_online r.status && nat_lt 0 r.last) (nat_lt r.last round) e).0).0

-- who has expired, and the rows then
expired_is : (round : ℕ) (who : Address) (m n : RowMap) → expired round who m ≡ Some n → (is_apart (account m who).status ≡ false) × (n ≡ set_account m who (without_keys Offline (account m who)))
unfolding expired
expired_is round who m n e = by_test (is_expired round (account m who)) refl e
  where
    due : RowMap
    due = set_account m who (without_keys Offline (account m who))

    by_test : (t : Bool) → is_expired round (account m who) ≡ t → (if t then Some due else None) ≡ Some n → (is_apart (account m who).status ≡ false) × (n ≡ due)
    by_test true t e = (expired_earns round (account m who) t, sym (some_same due n e))
    by_test false t e = absurd (let x : ◌≡◌ {A = Option RowMap} None (Some n) = e in cc)

pub expired_moves : (round : ℕ) (who : Address) (m n : RowMap) → expired round who m ≡ Some n → KeysMove who m n
expired_moves round who m n e =
    let is = expired_is round who m n e in
    record { after = without_keys Offline (account m who); set = is.1; same = refl; takes_part = is.0 }

-- ---- money

pending_same : (level : ℕ) (s t : Share) → is_apart s.status ≡ is_apart t.status → s.balance ≡ t.balance → s.base ≡ t.base → pending level s ≡ pending level t
unfolding pending
pending_same level s t apart balance base =
    ap (λ b. cond (b || nat_le level s.base) 0 (min max_balance (s.balance / reward_unit * (level - s.base)))) apart
    ∙ ap (λ n. cond (is_apart t.status || nat_le level n) 0 (min max_balance (s.balance / reward_unit * (level - n)))) base
    ∙ ap (λ n. cond (is_apart t.status || nat_le level t.base) 0 (min max_balance (n / reward_unit * (level - t.base)))) balance

-- what takes part is worth the same with another status and other keys, where nothing is pending if it takes part no more
worth_same : (level : ℕ) (r s : AccountRow) → without_keys Offline s ≡ without_keys Offline r → is_apart r.status ≡ false → (is_apart s.status ≡ true → earned level r ≡ 0) → worth level (row.Account s) ≡ worth level (row.Account r)
worth_same level r s same part none = by_status (is_apart s.status) refl
  where
    balance : s.balance ≡ r.balance
    balance = ap (λ (a : AccountRow). a.balance) same

    base : s.base ≡ r.base
    base = ap (λ (a : AccountRow). a.base) same

    by_status : (t : Bool) → is_apart s.status ≡ t → worth level (row.Account s) ≡ worth level (row.Account r)
    by_status true e = omega (arith, balance, pending_apart level (share_of s) e, none e)
    by_status false e = omega (arith, balance, pending_same level (share_of s) (share_of r) (e ∙ sym part) balance base)

money_same : (level : ℕ) (who : Address) (m : RowMap) (r : AccountRow) → worth level (row.Account r) ≡ worth level (row.Account (account m who)) → money level (set_account m who r) ≡ money level m
money_same level who m r same = omega (arith, money_set level m who r, same)

pub keys_money : (level : ℕ) (who : Address) (m n : RowMap) (move : KeysMove who m n) → (is_apart move.after.status ≡ true → earned level (account m who) ≡ 0) → money level n ≡ money level m
keys_money level who m n move none = ap (money level) move.set ∙ money_same level who m move.after (worth_same level (account m who) move.after move.same move.takes_part none)

pub expired_money : (level round : ℕ) (who : Address) (m n : RowMap) → expired round who m ≡ Some n → money level n ≡ money level m
expired_money level round who m n e =
    let is = expired_is round who m n e in
    let r = without_keys Offline (account m who) in
    ap (money level) is.1 ∙ money_same level who m r (worth_same level (account m who) r refl is.0 (λ apart. absurd (true≢false (sym apart))))

pub keys_are_fair : KeysAreFair
keys_are_fair = record {
  registration = keyed_moves;
  refusal = keyed_refused;
  registration_money = λ level round who k m n none e. keys_money level who m n (keyed_moves round who k m n e) (λ _. none);
  after_move = moved_none;
  after_rekey = rekeyed_none;
  expiry = expired_moves;
  expiry_money = expired_money;
}

-- ---- what stays of the rows

-- what the row that is set has like the one before, each account keeps
keep_set : {X : Type 0} (f : AccountRow → X) → ((b : ℕ) → f (record no_account { base = b }) ≡ f no_account) → (m : RowMap) (who : Address) (r : AccountRow) → f r ≡ f (account m who) → (a : Address) → f (account (set_account m who r) a) ≡ f (account m a)
keep_set f zero m who r same a = ap f (account-set m who a (unless_zero (row.Account r))) ∙ by_test (same_address who a) refl
  where
    by_test : (t : Bool) → same_address who a ≡ t → f (account_in (cond t (unless_zero (row.Account r)) (get m (key.Account a)))) ≡ f (account m a)
    by_test true e = read_back f zero r ∙ same ∙ ap (λ (x : Address). f (account m x)) (same_is_true who a e)
    by_test false e = refl

some_row : (b : Bool) (r s : Row) → (if b then None else Some r) ≡ Some s → r ≡ s
some_row true r s e = absurd (let x : ◌≡◌ {A = Option Row} None (Some s) = e in cc)
some_row false r s e = let x : ◌≡◌ {A = Option Row} (Some r) (Some s) = e in cc

same_account : (r s : AccountRow) → row.Account r ≡ row.Account s → r ≡ s
same_account r s e = cc

-- the base of an account that is read back
base_in : (level : ℕ) (o : Option Row) → ((r : AccountRow) → o ≡ Some (row.Account r) → is_apart r.status ≡ false → r.base ≤ level) → is_apart (account_in o).status ≡ false → (account_in o).base ≤ level
base_in level None h part = omega arith
base_in level (Some (row.Account r)) h part = h r refl part
base_in level (Some (row.Asset a)) h part = omega arith
base_in level (Some (row.App a)) h part = omega arith
base_in level (Some (row.Box b)) h part = omega arith

module _ (who : Address) (m n : RowMap) (move : KeysMove who m n) where
  abbrev now : Option Row
  now = unless_zero (row.Account move.after)

  -- the rows under other keys
  pub keys_others : (q : Key) → is_at (key_cmp (key.Account who)) q ≡ false → get n q ≡ get m q
  keys_others q apart = ap (λ (x : RowMap). get x q) move.set ∙ get-set m (key.Account who) now q ∙ ap (λ b. cond b now (get m q)) apart

  pub keys_resources : (a : Address) (id : ℕ) → get n (key.Resource a id) ≡ get m (key.Resource a id)
  keys_resources a id = keys_others (key.Resource a id) refl

  -- sums of what rows of other kinds weigh
  pub keys_sums : (w : Key → Row → ℕ) → IsForOthers w → total w n ≡ total w m
  keys_sums w others =
      ap (total w) move.set
      ∙ omega (arith, total-set_at keys_total exact_keys w m (key.Account who) now, none_weighs w others who now, none_weighs w others who (get m (key.Account who)))

  -- what each account has besides status, keys and base: a zero row goes, and its base with it
  pub keys_keep : {X : Type 0} (f : AccountRow → X) → ((b : ℕ) → f (record no_account { base = b }) ≡ f no_account) → ((r : AccountRow) → f (without_keys Offline r) ≡ f r) → (a : Address) → f (account n a) ≡ f (account m a)
  keys_keep f zero same a =
      ap (λ (x : RowMap). f (account x a)) move.set
      ∙ keep_set f zero m who move.after (sym (same move.after) ∙ ap f move.same ∙ same (account m who)) a

  pub keys_balance : (a : Address) → (account n a).balance ≡ (account m a).balance
  keys_balance = keys_keep (λ r. r.balance) (λ b. refl) (λ r. refl)

  pub keys_auth : (a : Address) → (account n a).auth ≡ (account m a).auth
  keys_auth = keys_keep (λ r. r.auth) (λ b. refl) (λ r. refl)

  -- who takes part no more stays as it is, so sink and pool do
  pub keys_apart : (a : Address) → (account m a).status ≡ NotParticipating → account n a ≡ account m a
  keys_apart a apart = ap (λ (x : RowMap). account x a) move.set ∙ account-set m who a now ∙ ap (λ b. account_in (cond b now (get m (key.Account a)))) (by_test (same_address who a) refl)
    where
      by_test : (t : Bool) → same_address who a ≡ t → t ≡ false
      by_test true e = sym (ap is_apart apart) ∙ sym (ap (λ (x : Address). is_apart (account m x).status) (same_is_true who a e)) ∙ move.takes_part
      by_test false e = refl

  -- the counts of all accounts stay those of their rows
  pub keys_counts : (a : Address) → CountsAgree m a → CountsAgree n a
  keys_counts a agree = record {
    assets_held = keys_keep (λ r. r.assets_held) (λ b. refl) (λ r. refl) a ∙ agree.assets_held ∙ sym (keys_sums (owned a assets_held_in) (λ b r. refl));
    assets_created = keys_keep (λ r. r.assets_created) (λ b. refl) (λ r. refl) a ∙ agree.assets_created ∙ sym (keys_sums (owned a assets_created_in) (λ b r. refl));
    apps_created = keys_keep (λ r. r.apps_created) (λ b. refl) (λ r. refl) a ∙ agree.apps_created ∙ sym (keys_sums (owned a apps_created_in) (λ b r. refl));
    apps_opted = keys_keep (λ r. r.apps_opted) (λ b. refl) (λ r. refl) a ∙ agree.apps_opted ∙ sym (keys_sums (owned a apps_opted_in) (λ b r. refl));
    extra_pages = keys_keep (λ r. r.extra_pages) (λ b. refl) (λ r. refl) a ∙ agree.extra_pages ∙ sym (keys_sums (owned a extra_pages_in) (λ b r. refl));
    uints = keys_keep (λ r. r.uints) (λ b. refl) (λ r. refl) a ∙ agree.uints ∙ sym (keys_sums (owned a uints_in) (λ b r. refl));
    byte_slices = keys_keep (λ r. r.byte_slices) (λ b. refl) (λ r. refl) a ∙ agree.byte_slices ∙ sym (keys_sums (owned a byte_slices_in) (λ b r. refl));
    boxes = keys_keep (λ r. r.boxes) (λ b. refl) (λ r. refl) a ∙ agree.boxes ∙ sym (keys_sums (boxes_of a) (λ b r. refl));
    box_bytes = keys_keep (λ r. r.box_bytes) (λ b. refl) (λ r. refl) a ∙ agree.box_bytes ∙ sym (keys_sums (box_bytes_of a) (λ b r. refl));
  }

  -- what holds of each row before, and of the one account after, holds of each row after
  pub keys_rows : (P : Key → Row → Type 0) → ((q : Key) (r : Row) → get m q ≡ Some r → P q r) → P (key.Account who) (row.Account move.after) → (q : Key) (r : Row) → get n q ≡ Some r → P q r
  keys_rows P each here q r is = by_test (is_at (key_cmp (key.Account who)) q) refl (sym (ap (λ (x : RowMap). get x q) move.set ∙ get-set m (key.Account who) now q) ∙ is)
    where
      by_test : (t : Bool) → is_at (key_cmp (key.Account who)) q ≡ t → cond t now (get m q) ≡ Some r → P q r
      by_test true e s = subst (λ k. P k r) (same_key (key.Account who) q e) (subst (P (key.Account who)) (some_row (is_zero (row.Account move.after)) (row.Account move.after) r s) here)
      by_test false e s = each q r s

  -- the one account stays in its ranges
  pub keys_range : AccountInRange (account m who) → AccountInRange move.after
  keys_range h =
      let same = move.same in (
        omega (arith, h.0, ap (λ (a : AccountRow). a.balance) same),
        record {
          assets_held = omega (arith, h.1.assets_held, ap (λ (a : AccountRow). a.assets_held) same);
          assets_created = omega (arith, h.1.assets_created, ap (λ (a : AccountRow). a.assets_created) same);
          apps_created = omega (arith, h.1.apps_created, ap (λ (a : AccountRow). a.apps_created) same);
          apps_opted = omega (arith, h.1.apps_opted, ap (λ (a : AccountRow). a.apps_opted) same);
          extra_pages = omega (arith, h.1.extra_pages, ap (λ (a : AccountRow). a.extra_pages) same);
          uints = omega (arith, h.1.uints, ap (λ (a : AccountRow). a.uints) same);
          byte_slices = omega (arith, h.1.byte_slices, ap (λ (a : AccountRow). a.byte_slices) same);
          boxes = omega (arith, h.1.boxes, ap (λ (a : AccountRow). a.boxes) same);
          box_bytes = omega (arith, h.1.box_bytes, ap (λ (a : AccountRow). a.box_bytes) same);
        },
      )

  -- who takes part was given its rewards at the level or below
  pub keys_bases : (level : ℕ) → ((q : Key) (r : AccountRow) → get m q ≡ Some (row.Account r) → is_apart r.status ≡ false → r.base ≤ level) → (q : Key) (r : AccountRow) → get n q ≡ Some (row.Account r) → is_apart r.status ≡ false → r.base ≤ level
  keys_bases level each q r is =
      let here : move.after.base ≤ level = omega (arith, ap (λ (a : AccountRow). a.base) move.same, base_in level (get m (key.Account who)) (each (key.Account who)) move.takes_part) in
      keys_rows (λ _ x. (s : AccountRow) → x ≡ row.Account s → is_apart s.status ≡ false → s.base ≤ level)
      (λ k x found s e. each k s (found ∙ ap Some e))
      (λ s e _. subst (λ (a : AccountRow). a.base ≤ level) (same_account move.after s e) here)
      q (row.Account r) is r refl
