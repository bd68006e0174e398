-- What stays where the counts of an account alone change.
use Rattle.std.proofs.Common.{◌≡◌, ◌≤◌, ◌+◌, ℕ, refl, sym, ap, ◌∙◌, subst, arith, Bool, true, false, if◌then◌else◌, cond, true≢false, is_some, Option, Some, None, Ok, Err, leb-true}
use Rattle.std.proofs.lemmas.Bool.{and_parts}
use Rattle.std.specs.BTreeMap.{is_at}
use Rattle.std.specs.FinMap.{get}
use Rattle.std.specs.Option.{unwrap_or}
use Rattle.al_base.specs.declared.address.Address.{Address}
use Rattle.al_base.specs.declared.key.Key.{Key}
use Rattle.al_base.specs.declared.key.Key.TheVariants as key
use Rattle.al_base.specs.Keys.{key_cmp}
use Rattle.al_rewards.specs.Pending.{is_apart, pending}
use Rattle.al_rows.specs.Limits.{max_balance, max_count}
use Rattle.al_rows.specs.declared.account.AccountRow.{AccountRow}
use Rattle.al_rows.specs.declared.row.Row.{Row}
use Rattle.al_rows.specs.declared.row.Row.TheVariants as row
use Rattle.al_rows.specs.Finite.{set_at, total, weight}
use Rattle.al_rows.specs.Rows.{AccountInRange, CountsInRange, RowMap, account, account_in, is_zero, is_zero_account, no_account, set_account, unless_zero}
use Rattle.al_rows.proofs.Keys.{keys_total, exact_keys}
use Rattle.al_rows.proofs.Maps.{total-set_at}
use Rattle.al_rows.proofs.Sames.{account_true}
use Rattle.al_moves.specs.declared.resource.Counts.{Counts}
use Rattle.al_overlay.specs.Rules.{of_account}
use Rattle.al_moves.specs.Money.{money, worth}
use Rattle.al_moves.specs.Resources.{counts_within, put_counts, recount, recounted, same_counts}
use Rattle.al_moves.proofs.Monies.{money_set}
use Rattle.al_overlay.proofs.Overlays.{get-set, same_key}
use Rattle.al_resources.specs.Kept.{Ends}
use Rattle.al_resources.specs.Sound.{FieldsInRange}

pub none_some : {A : Type 0} (x : A) → None ≡ Some x → ⊥
none_some x e = true≢false (sym (ap is_some e))

pub some_same : {A : Type 0} (x y : A) → Some x ≡ Some y → x ≡ y
some_same x y e = ap (λ o. unwrap_or o x) e

-- ---- rows with one set

-- what holds of the row that was set, and under each other key of the row before
pub at_set : (Q : Option Row → Type 0) (m : RowMap) (k : Key) (o : Option Row) (q : Key) → (k ≡ q → Q o) → (is_at (key_cmp k) q ≡ false → Q (get m q)) → Q (get (set_at m k o) q)
at_set Q m k o q h g = subst Q (sym (get-set m k o q)) (by_test (is_at (key_cmp k) q) refl)
  where
    by_test : (b : Bool) → is_at (key_cmp k) q ≡ b → Q (cond b o (get m q))
    by_test true e = h (same_key k q e)
    by_test false e = g e

-- an account row as it is read back: a zero row is none
pub at_unless : (Q : AccountRow → Type 0) (r : AccountRow) → Q r → (r ≡ record no_account { base = r.base } → Q no_account) → Q (account_in (unless_zero (row.Account r)))
unfolding is_zero is_zero_account
at_unless Q r h g = by_test (is_zero (row.Account r)) refl
  where
    by_test : (b : Bool) → is_zero (row.Account r) ≡ b → Q (account_in (if b then None else Some (row.Account r)))
    by_test true e = g (account_true r (record no_account { base = r.base }) e)
    by_test false e = h

-- what is read of each account stays where one account is set to the same
read_same : {A : Type 0} (f : AccountRow → A) → ((b : ℕ) → f (record no_account { base = b }) ≡ f no_account) → (m : RowMap) (who : Address) (r : AccountRow) → f r ≡ f (account m who) → (a : Address) → f (account (set_account m who r) a) ≡ f (account m a)
read_same f zero m who r same a = at_set (λ o. f (account_in o) ≡ f (account m a)) m (key.Account who) (unless_zero (row.Account r)) (key.Account a)
    (λ e. let here : f r ≡ f (account m a) = same ∙ ap (λ k. f (account_in (get m k))) e in
    at_unless (λ s. f s ≡ f (account m a)) r here (λ z. sym (zero r.base) ∙ sym (ap f z) ∙ here))
    (λ _. refl)

-- ---- what is so of all rows

-- each account that earns was given its rewards at the level or below
abbrev pub AllBased : ℕ → RowMap → Type 0
AllBased level m = (k : Key) (r : AccountRow) → get m k ≡ Some (row.Account r) → is_apart r.status ≡ false → r.base ≤ level

-- each row is of its key's kind, and in its ranges
abbrev pub AllInRange : RowMap → Type 0
AllInRange m = (k : Key) (r : Row) → get m k ≡ Some r → FieldsInRange k r

-- weights under no account's key
abbrev pub IsForOthers : (Key → Row → ℕ) → Type 0
IsForOthers w = (who : Address) (r : Row) → w (key.Account who) r ≡ 0

pub none_weighs : (w : Key → Row → ℕ) → IsForOthers w → (who : Address) (o : Option Row) → weight w (key.Account who) o ≡ 0
none_weighs w h who None = refl
none_weighs w h who (Some r) = h who r

-- the base of an account, which is 0 where it has no row
pub account_based : (level : ℕ) (o : Option Row) → ((r : AccountRow) → o ≡ Some (row.Account r) → is_apart r.status ≡ false → r.base ≤ level) → is_apart (account_in o).status ≡ false → (account_in o).base ≤ level
account_based level None h = λ _. omega arith
account_based level (Some (row.Account r)) h = h r refl
account_based level (Some (row.Asset a)) h = λ _. omega arith
account_based level (Some (row.App a)) h = λ _. omega arith
account_based level (Some (row.Box b)) h = λ _. omega arith

balance_ranged : (a : Address) (o : Option Row) → ((r : Row) → o ≡ Some r → FieldsInRange (key.Account a) r) → (account_in o).balance ≤ max_balance
balance_ranged a None h = omega arith
balance_ranged a (Some (row.Account r)) h = (h (row.Account r) refl).0
balance_ranged a (Some (row.Asset x)) h = absurd (h (row.Asset x) refl)
balance_ranged a (Some (row.App x)) h = absurd (h (row.App x) refl)
balance_ranged a (Some (row.Box b)) h = absurd (h (row.Box b) refl)

counts_ranged : (r : AccountRow) → counts_within r ≡ true → CountsInRange r
counts_ranged r e =
    let p1 = and_parts _ _ e in
    let p2 = and_parts _ _ p1.0 in
    let p3 = and_parts _ _ p2.0 in
    let p4 = and_parts _ _ p3.0 in
    let p5 = and_parts _ _ p4.0 in
    let p6 = and_parts _ _ p5.0 in
    let p7 = and_parts _ _ p6.0 in
    let p8 = and_parts _ _ p7.0 in
    record {
      assets_held = leb-true r.assets_held max_count p8.0;
      assets_created = leb-true r.assets_created max_count p8.1;
      apps_created = leb-true r.apps_created max_count p7.1;
      apps_opted = leb-true r.apps_opted max_count p6.1;
      extra_pages = leb-true r.extra_pages max_count p5.1;
      uints = leb-true r.uints max_count p4.1;
      byte_slices = leb-true r.byte_slices max_count p3.1;
      boxes = leb-true r.boxes max_count p2.1;
      box_bytes = leb-true r.box_bytes max_count p1.1;
    }

-- ---- counts move

-- rows that differ from others in the counts of accounts alone
pub record Alike (level : ℕ) (m n : RowMap) : Type 0 where
  pub resources : (a : Address) (id : ℕ) → get n (key.Resource a id) ≡ get m (key.Resource a id)
  pub sums : (w : Key → Row → ℕ) → IsForOthers w → total w n ≡ total w m
  pub same : money level n ≡ money level m
  pub bases : AllBased level m → AllBased level n
  pub ranges : AllInRange m → AllInRange n
  pub statuses : (a : Address) → (account n a).status ≡ (account m a).status
  pub balances : (a : Address) → (account n a).balance ≡ (account m a).balance

alike_itself : (level : ℕ) (m : RowMap) → Alike level m m
alike_itself level m = record { resources = λ _ _. refl; sums = λ _ _. refl; same = refl; bases = λ h. h; ranges = λ h. h; statuses = λ _. refl; balances = λ _. refl }

worth_same : (level : ℕ) (r s : AccountRow) → r.status ≡ s.status → r.balance ≡ s.balance → r.base ≡ s.base → worth level (row.Account r) ≡ worth level (row.Account s)
worth_same level r s p q t = λ i. q i + pending level (record { status = p i; balance = q i; base = t i })

pub is_row : (b : Bool) (r s : Row) → (if b then None else Some r) ≡ Some s → r ≡ s
is_row true r s e = absurd (none_some s e)
is_row false r s e = some_same r s e

account_is : (r s : AccountRow) → row.Account r ≡ row.Account s → r ≡ s
account_is r s e = cc

alike_set : (level : ℕ) (m : RowMap) (who : Address) (r : AccountRow) → r.status ≡ (account m who).status → r.balance ≡ (account m who).balance → r.base ≡ (account m who).base → CountsInRange r → Alike level m (set_account m who r)
alike_set level m who r status balance base counts =
    let o = unless_zero (row.Account r) in
    record {
      resources = λ a id. get-set m (key.Account who) o (key.Resource a id);
      sums = λ w h. omega (arith, total-set_at keys_total exact_keys w m (key.Account who) o, none_weighs w h who o, none_weighs w h who (get m (key.Account who)));
      same = omega (arith, money_set level m who r, worth_same level r (account m who) status balance base);
      bases = λ all k s. at_set (λ p. p ≡ Some (row.Account s) → is_apart s.status ≡ false → s.base ≤ level) m (key.Account who) o k (λ _ e. based all s e) (λ _. all k s);
      ranges = λ all k s. at_set (λ p. p ≡ Some s → FieldsInRange k s) m (key.Account who) o k (λ e is. subst (λ q. FieldsInRange q s) e (ranged all s is)) (λ _. all k s);
      statuses = read_same (λ s. s.status) (λ b. refl) m who r status;
      balances = read_same (λ s. s.balance) (λ b. refl) m who r balance;
    }
  where
    based : AllBased level m → (s : AccountRow) → unless_zero (row.Account r) ≡ Some (row.Account s) → is_apart s.status ≡ false → s.base ≤ level
    based all s e =
        let low : is_apart r.status ≡ false → r.base ≤ level = λ earns. (let l = account_based level (get m (key.Account who)) (all (key.Account who)) (ap is_apart (sym status) ∙ earns) in omega arith) in
        subst (λ (q : AccountRow). is_apart q.status ≡ false → q.base ≤ level) (account_is r s (is_row (is_zero (row.Account r)) (row.Account r) (row.Account s) e)) low

    ranged : AllInRange m → (s : Row) → unless_zero (row.Account r) ≡ Some s → FieldsInRange (key.Account who) s
    ranged all s e =
        let few = balance_ranged who (get m (key.Account who)) (all (key.Account who)) in
        let fits : AccountInRange r = (omega arith, counts) in
        subst (λ q. FieldsInRange (key.Account who) q) (is_row (is_zero (row.Account r)) (row.Account r) s e) fits

pub recount_alike : (level : ℕ) (who : Address) (old new : Counts) (m : RowMap) → Ends (Alike level m) (recount who old new m)
unfolding recount
recount_alike level who old new m = by_test (same_counts old new)
  where
    put : (b : Bool) → counts_within (recounted old new (account m who)) ≡ b → Ends (Alike level m) (if b then Ok (set_account m who (recounted old new (account m who))) else Err (of_account 65 who))
    put true e = alike_set level m who (recounted old new (account m who)) refl refl refl (counts_ranged (recounted old new (account m who)) e)
    put false e = omega arith

    by_test : (b : Bool) → Ends (Alike level m) (if b then Ok m else put_counts m who (recounted old new (account m who)))
    by_test true = alike_itself level m
    by_test false = put (counts_within (recounted old new (account m who))) refl
