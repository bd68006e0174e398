-- What no transaction changes: resource and box rows, the counts of accounts, and that sink and pool do not participate.
use Rattle.std.proofs.Common.{◌≡◌, ◌≢◌, ◌≤◌, ◌+◌, ◌-◌, ℕ, refl, sym, ap, ◌∙◌, subst, arith, Bool, true, false, not, ◌&&◌, ◌||◌, if◌then◌else◌, nat_eq, nat_lt, cond, Option, Some, None, Result, Ok, Err, IfSome, ltb-false}
use Rattle.std.proofs.Math.Bool.{and_assoc}
use Rattle.std.specs.FinMap.{get}
use Rattle.al_base.specs.declared.account.Special.{Special}
use Rattle.al_base.specs.declared.account.Status.TheVariants.{Offline, NotParticipating}
use Rattle.al_base.specs.declared.address.Address.{Address}
use Rattle.al_base.specs.declared.key.Key.{Key}
use Rattle.al_base.specs.declared.key.Key.TheVariants as key
use Rattle.al_rewards.specs.Pending.{is_apart}
use Rattle.al_rows.specs.Limits.{max_balance}
use Rattle.al_rows.specs.declared.account.AccountRow.{AccountRow}
use Rattle.al_rows.specs.declared.row.Row.{Row}
use Rattle.al_rows.specs.declared.row.Row.TheVariants as row
use Rattle.al_rows.specs.Finite.{set_at, total}
use Rattle.al_rows.specs.Rows.{RowMap, AccountInRange, CountsInRange, is_zero, unless_zero, account, account_in, set_account, no_account, no_address}
use Rattle.al_rows.proofs.Keys.{keys_total, exact_keys}
use Rattle.al_rows.proofs.Maps.{total-set_at}
use Rattle.al_rows.proofs.Sames.{account_true}
use Rattle.al_bodies.specs.declared.body.Pay.{Pay}
use Rattle.al_overlay.specs.declared.rule.Rule.{Rule}
use Rattle.al_overlay.specs.Rules.{then_do, unless_refused, of_account, too_little}
use Rattle.al_overlay.specs.Accounts.{same_address, credited, earned, put_account, give, take_in, moved}
use Rattle.al_moves.specs.Pay.{has_no_counts, closed_at, closed, paid_amount, paid_close, paid, rekeyed}
use Rattle.al_moves.specs.Minimum.{first_shortfall, checked}
use Rattle.al_overlay.proofs.Overlays.{get-set}
use Rattle.al_moves.proofs.Monies.{same_is, shortfall_number}
use Rattle.al_resources.specs.Sound.{FieldsInRange}
pub use Rattle.al_resources.proofs.Recounts.{AllBased, AllInRange, IsForOthers, at_set, at_unless}
use Rattle.al_resources.proofs.Recounts.{account_based, none_weighs}

pub other_account : (m : RowMap) (a b : Address) (o : Option Row) → same_address a b ≡ false → account (set_at m (key.Account a) o) b ≡ account m b
other_account m a b o apart = ap account_in (get-set m (key.Account a) o (key.Account b)) ∙ ap (λ c. account_in (cond c o (get m (key.Account b)))) (same_is a b ∙ apart)

pub address_is : (a b : Address) → key.Account a ≡ key.Account b → a ≡ b
address_is a b e = cc

-- ---- what holds of each step that is not refused

-- no rule of moves, payments and rekeys is 53
other : (n k : ℕ) → n + k ≡ 52 → n ≢ 53
other n k e f = absurd (omega arith)

abbrev pub Holds : (RowMap → Type 0) → Result RowMap Rule → Type 0
Holds P (Ok n) = P n
Holds P (Err r) = r.number ≢ 53

-- a relation of the rows before and after that each step of a sender's transaction has
pub record IsStep (P : RowMap → RowMap → Type 0) (level : ℕ) (who : Address) : Type 0 where
  pub same : (m : RowMap) → P m m
  pub on : (m k n : RowMap) → P m k → P k n → P m n
  pub gives : (m : RowMap) (b : ℕ) → b ≤ max_balance → P m (set_account m who (record (credited level (account m who)) { balance = b }))
  pub takes : (m : RowMap) (to : Address) (amount : ℕ) → (credited level (account m to)).balance + amount ≤ max_balance → P m (set_account m to (record (credited level (account m to)) { balance = (credited level (account m to)).balance + amount }))
  pub signs : (m : RowMap) (auth : Address) → (account m who).balance ≤ max_balance → P m (set_account m who (record (account m who) { auth = auth }))

-- and its close, if it closes
abbrev pub IsClose : (RowMap → RowMap → Type 0) → Address → Type 0
IsClose P who = (old m : RowMap) → has_no_counts (account old who) ≡ true → P old m → P old (set_at m (key.Account who) None)

module _ (P : RowMap → RowMap → Type 0) (level : ℕ) (who : Address) (step : IsStep P level who) where
  holds_then : (m : RowMap) (due : Result RowMap Rule) (f : RowMap → Result RowMap Rule) → Holds (P m) due → ((n : RowMap) → Holds (P n) (f n)) → Holds (P m) (then_do due f)
  holds_then m (Ok k) f h g = after (f k) (g k)
    where
      after : (r : Result RowMap Rule) → Holds (P k) r → Holds (P m) r
      after (Ok n) x = step.on m k n h x
      after (Err r) x = x
  holds_then m (Err r) f h g = h

  holds_if : (m : RowMap) (b : Bool) (x y : Result RowMap Rule) → (b ≡ true → Holds (P m) x) → (b ≡ false → Holds (P m) y) → Holds (P m) (if b then x else y)
  holds_if m true x y h g = h refl
  holds_if m false x y h g = g refl

  holds_put : (m : RowMap) (a : Address) (r : AccountRow) → (r.balance ≤ max_balance → P m (set_account m a r)) → Holds (P m) (put_account m a r)
  holds_put m a r h = holds_if m (nat_lt max_balance r.balance) (Err (of_account 41 a)) (Ok (set_account m a r)) (λ _. other 41 11 refl) (λ e. h (ltb-false max_balance r.balance e))

  gives_holds : (amount : ℕ) (m : RowMap) → Holds (P m) (give level who amount m)
  unfolding give
  gives_holds amount m =
      let c = credited level (account m who) in
      holds_if m (nat_lt c.balance amount) (Err (too_little 40 c.balance amount who)) (put_account m who (record c { balance = c.balance - amount })) (λ _. other 40 12 refl)
      (λ _. holds_put m who (record c { balance = c.balance - amount }) (step.gives m (c.balance - amount)))

  takes_holds : (to : Address) (amount : ℕ) (m : RowMap) → Holds (P m) (take_in level to amount m)
  unfolding take_in
  takes_holds to amount m =
      let c = credited level (account m to) in
      holds_put m to (record c { balance = c.balance + amount }) (step.takes m to amount)

  pub moved_holds : (to : Address) (amount : ℕ) (m : RowMap) → Holds (P m) (moved level who to amount m)
  unfolding moved
  moved_holds to amount m = holds_then m (give level who amount m) (λ n. take_in level to amount n) (gives_holds amount m) (λ n. takes_holds to amount n)

  then_gone : IsClose P who → (m : RowMap) (due : Result RowMap Rule) → has_no_counts (account m who) ≡ true → Holds (P m) due → Holds (P m) (then_do due (λ n. Ok (set_at n (key.Account who) None)))
  then_gone close m (Ok n) none h = close m n none h
  then_gone close m (Err r) none h = h

  none_left : (a b : Bool) → (a || not b) ≡ false → b ≡ true
  none_left true b h = cc
  none_left false true h = refl
  none_left false false h = cc

  closed_holds : IsClose P who → (to : Address) (m : RowMap) → Holds (P m) (closed level who to m)
  unfolding closed closed_at
  closed_holds close to m =
      let r = account m who in
      holds_if m (same_address to who || not (has_no_counts r)) (Err (of_account 43 who)) _ (λ _. other 43 9 refl)
      (λ e. then_gone close m (moved level who to (credited level r).balance m) (none_left _ _ e) (moved_holds to (credited level r).balance m))

  pub paid_holds : (p : Pay) → (same_address p.close no_address ≡ false → IsClose P who) → (m : RowMap) → Holds (P m) (paid level who p m)
  unfolding paid paid_amount paid_close
  paid_holds p close m = holds_then m (paid_amount level who p m) (λ n. paid_close level who p n)
      (holds_if m (nat_eq p.amount 0 && same_address p.receiver no_address) (Ok m) (moved level who p.receiver p.amount m) (λ _. step.same m) (λ _. moved_holds p.receiver p.amount m))
      (λ n. holds_if n (same_address p.close no_address) (Ok n) (closed level who p.close n) (λ _. step.same n) (λ e. closed_holds (close e) p.close n))

  pub rekeyed_holds : (to : Address) (m : RowMap) → Holds (P m) (rekeyed who to m)
  unfolding rekeyed
  rekeyed_holds to m =
      let auth = if same_address to who then no_address else to in
      holds_if m (same_address to no_address) (Ok m) (put_account m who (record (account m who) { auth = auth })) (λ _. step.same m)
      (λ _. holds_put m who (record (account m who) { auth = auth }) (step.signs m auth))

  refused_holds : (o : Option Rule) (m : RowMap) → IfSome o (λ r. r.number ≡ 42) → Holds (P m) (unless_refused o m)
  refused_holds None m h = step.same m
  refused_holds (Some r) m h = λ e. absurd (omega arith)

  pub checked_holds : (special : Special) (start m : RowMap) → Holds (P m) (checked level special start m)
  checked_holds special start m = refused_holds (first_shortfall level special start m) m (shortfall_number level special start m)

-- ---- what each transaction keeps

-- an account with its counts alone
abbrev pub counts_of : AccountRow → AccountRow
counts_of r = record no_account {
  assets_held = r.assets_held;
  assets_created = r.assets_created;
  apps_created = r.apps_created;
  apps_opted = r.apps_opted;
  extra_pages = r.extra_pages;
  uints = r.uints;
  byte_slices = r.byte_slices;
  boxes = r.boxes;
  box_bytes = r.box_bytes;
}

pub record Keeps (level : ℕ) (m n : RowMap) : Type 0 where
  pub resources : (who : Address) (id : ℕ) → get n (key.Resource who id) ≡ get m (key.Resource who id)
  pub sums : (w : Key → Row → ℕ) → IsForOthers w → total w n ≡ total w m
  pub counts : (who : Address) → counts_of (account n who) ≡ counts_of (account m who)
  pub bases : AllBased level m → AllBased level n
  pub ranges : AllInRange m → AllInRange n

no_resource : (a who : Address) (id : ℕ) → key.Account a ≡ key.Resource who id → ⊥
no_resource a who id e = cc

keeps_set : (level : ℕ) (m : RowMap) (a : Address) (o : Option Row) → counts_of (account_in o) ≡ counts_of (account m a) → (AllBased level m → (r : AccountRow) → o ≡ Some (row.Account r) → is_apart r.status ≡ false → r.base ≤ level)
    → (AllInRange m → (r : Row) → o ≡ Some r → FieldsInRange (key.Account a) r) → Keeps level m (set_at m (key.Account a) o)
keeps_set level m a o counts base range = record {
  resources = λ who id. at_set (λ p. p ≡ get m (key.Resource who id)) m (key.Account a) o (key.Resource who id) (λ e. absurd (no_resource a who id e)) (λ _. refl);
  sums = λ w h. omega (arith, total-set_at keys_total exact_keys w m (key.Account a) o, none_weighs w h a o, none_weighs w h a (get m (key.Account a)));
  counts = λ who. at_set (λ p. counts_of (account_in p) ≡ counts_of (account m who)) m (key.Account a) o (key.Account who) (λ e. counts ∙ ap (λ k. counts_of (account_in (get m k))) e) (λ _. refl);
  bases = λ all k r. at_set (λ p. p ≡ Some (row.Account r) → is_apart r.status ≡ false → r.base ≤ level) m (key.Account a) o k (λ _. base all r) (λ _. all k r);
  ranges = λ all k r. at_set (λ p. p ≡ Some r → FieldsInRange k r) m (key.Account a) o k (λ e is. subst (λ q. FieldsInRange q r) e (range all r is)) (λ _. all k r);
}

-- ---- ranges

none_ranged : CountsInRange no_account
none_ranged = record {
  assets_held = omega arith;
  assets_created = omega arith;
  apps_created = omega arith;
  apps_opted = omega arith;
  extra_pages = omega arith;
  uints = omega arith;
  byte_slices = omega arith;
  boxes = omega arith;
  box_bytes = omega arith;
}

-- an account that is read back is in its ranges
pub account_ranged : (a : Address) (o : Option Row) → ((r : Row) → o ≡ Some r → FieldsInRange (key.Account a) r) → AccountInRange (account_in o)
account_ranged a None h = (omega arith, none_ranged)
account_ranged a (Some (row.Account r)) h = h (row.Account r) refl
account_ranged a (Some (row.Asset x)) h = absurd (h (row.Asset x) refl)
account_ranged a (Some (row.App x)) h = absurd (h (row.App x) refl)
account_ranged a (Some (row.Box b)) h = absurd (h (row.Box b) refl)

-- the same counts are in the same ranges
counts_ranged : (r s : AccountRow) → counts_of r ≡ counts_of s → CountsInRange s → CountsInRange r
counts_ranged r s e h = record {
  assets_held = omega (arith, ap (λ (a : AccountRow). a.assets_held) e, h.assets_held);
  assets_created = omega (arith, ap (λ (a : AccountRow). a.assets_created) e, h.assets_created);
  apps_created = omega (arith, ap (λ (a : AccountRow). a.apps_created) e, h.apps_created);
  apps_opted = omega (arith, ap (λ (a : AccountRow). a.apps_opted) e, h.apps_opted);
  extra_pages = omega (arith, ap (λ (a : AccountRow). a.extra_pages) e, h.extra_pages);
  uints = omega (arith, ap (λ (a : AccountRow). a.uints) e, h.uints);
  byte_slices = omega (arith, ap (λ (a : AccountRow). a.byte_slices) e, h.byte_slices);
  boxes = omega (arith, ap (λ (a : AccountRow). a.boxes) e, h.boxes);
  box_bytes = omega (arith, ap (λ (a : AccountRow). a.box_bytes) e, h.box_bytes);
}

some_is : (b : Bool) (r s : Row) → (if b then None else Some r) ≡ Some s → r ≡ s
some_is true r s e = absurd (let x : ◌≡◌ {A = Option Row} None (Some s) = e in cc)
some_is false r s e = let x : ◌≡◌ {A = Option Row} (Some r) (Some s) = e in cc

is_row : (b : Bool) (r s : AccountRow) → (if b then None else Some (row.Account r)) ≡ Some (row.Account s) → r ≡ s
is_row true r s e = absurd (let x : ◌≡◌ {A = Option Row} None (Some (row.Account s)) = e in cc)
is_row false r s e = let x : ◌≡◌ {A = Option Row} (Some (row.Account r)) (Some (row.Account s)) = e in cc

-- an account is set with the counts that it has, a base that is low, and a balance in its range
pub keeps_account : (level : ℕ) (m : RowMap) (a : Address) (r : AccountRow) → counts_of r ≡ counts_of (account m a) → (AllBased level m → is_apart r.status ≡ false → r.base ≤ level) → (AllInRange m → r.balance ≤ max_balance) → Keeps level m (set_account m a r)
keeps_account level m a r counts base most = keeps_set level m a (unless_zero (row.Account r))
    (at_unless (λ s. counts_of s ≡ counts_of (account m a)) r counts (λ e. sym (ap counts_of e) ∙ counts))
    (λ all s e. subst (λ (q : AccountRow). is_apart q.status ≡ false → q.base ≤ level) (is_row (is_zero (row.Account r)) r s e) (base all))
    (λ all s e. subst (λ q. FieldsInRange (key.Account a) q) (some_is (is_zero (row.Account r)) (row.Account r) s e) (most all, counts_ranged r (account m a) counts (account_ranged a (get m (key.Account a)) (all (key.Account a))).1))

counts_credited : (level : ℕ) (r : AccountRow) (b : ℕ) → counts_of (record (credited level r) { balance = b }) ≡ counts_of r
counts_credited level r b = elim (is_apart r.status) as (λ (t : Bool). counts_of (record (if t then r else record r { balance = r.balance + earned level r; base = level }) { balance = b }) ≡ counts_of r) [ true ↦ refl | false ↦ refl ]

base_credited : (level : ℕ) (r : AccountRow) → is_apart (credited level r).status ≡ false → (credited level r).base ≤ level
base_credited level r = by_test (is_apart r.status) refl
  where
    by_test : (t : Bool) → is_apart r.status ≡ t → is_apart (if t then r else record r { balance = r.balance + earned level r; base = level }).status ≡ false → (if t then r else record r { balance = r.balance + earned level r; base = level }).base ≤ level
    by_test true e apart = absurd (let x : true ≡ false = sym e ∙ apart in cc)
    by_test false e apart = omega arith

-- one after another
pub keeps_on : (level : ℕ) (m k n : RowMap) → Keeps level m k → Keeps level k n → Keeps level m n
keeps_on level m k n h g = record {
  resources = λ a id. g.resources a id ∙ h.resources a id;
  sums = λ w is. g.sums w is ∙ h.sums w is;
  counts = λ a. g.counts a ∙ h.counts a;
  bases = λ all. g.bases (h.bases all);
  ranges = λ all. g.ranges (h.ranges all);
}

pub keeps_itself : (level : ℕ) (m : RowMap) → Keeps level m m
keeps_itself level m = record { resources = λ _ _. refl; sums = λ _ _. refl; counts = λ _. refl; bases = λ h. h; ranges = λ h. h }

keeps_steps : (level : ℕ) (who : Address) → IsStep (Keeps level) level who
keeps_steps level who = record {
  same = keeps_itself level;
  on = keeps_on level;
  gives = λ m b l. keeps_account level m who (record (credited level (account m who)) { balance = b }) (counts_credited level (account m who) b) (λ _. base_credited level (account m who)) (λ _. l);
  takes = λ m to amount l. (let b = (credited level (account m to)).balance + amount in keeps_account level m to (record (credited level (account m to)) { balance = b }) (counts_credited level (account m to) b) (λ _. base_credited level (account m to)) (λ _. l));
  signs = λ m auth l. keeps_account level m who (record (account m who) { auth = auth }) refl (λ all. account_based level (get m (key.Account who)) (all (key.Account who))) (λ _. l);
}

-- nine tests from the left are the same from the right
turned_and : (a b c d e f g h i : Bool) → (a && b && c && d && e && f && g && h && i) ≡ (a && (b && (c && (d && (e && (f && (g && (h && i))))))))
turned_and a b c d e f g h i =
    and_assoc (a && b && c && d && e && f && g) h i ∙ and_assoc (a && b && c && d && e && f) g (h && i) ∙ and_assoc (a && b && c && d && e) f (g && (h && i))
    ∙ and_assoc (a && b && c && d) e (f && (g && (h && i))) ∙ and_assoc (a && b && c) d (e && (f && (g && (h && i)))) ∙ and_assoc (a && b) c (d && (e && (f && (g && (h && i)))))
    ∙ and_assoc a b (c && (d && (e && (f && (g && (h && i))))))

-- an account without counts has those of none
no_counts : (r : AccountRow) → has_no_counts r ≡ true → counts_of no_account ≡ counts_of r
no_counts r h =
    sym (account_true (counts_of r) no_account (sym (turned_and (nat_eq r.assets_held 0) (nat_eq r.assets_created 0) (nat_eq r.apps_created 0) (nat_eq r.apps_opted 0) (nat_eq r.extra_pages 0) (nat_eq r.uints 0) (nat_eq r.byte_slices 0) (nat_eq r.boxes 0) (nat_eq r.box_bytes 0)) ∙ h))

keeps_close : (level : ℕ) (who : Address) → IsClose (Keeps level) who
keeps_close level who old m none h =
    let gone : Keeps level m (set_at m (key.Account who) None) = keeps_set level m who None (no_counts (account old who) none ∙ sym (h.counts who)) (λ _ r e. absurd (let x : ◌≡◌ {A = Option Row} None (Some (row.Account r)) = e in cc)) (λ _ r e. absurd (let x : ◌≡◌ {A = Option Row} None (Some r) = e in cc)) in
    keeps_on level old m (set_at m (key.Account who) None) h gone

-- ---- who does not participate

-- an account that does not participate stays so
abbrev pub Stays : Address → RowMap → RowMap → Type 0
Stays who m n = (account m who).status ≡ NotParticipating → (account n who).status ≡ NotParticipating

-- and has no less
abbrev pub Gains : Address → RowMap → RowMap → Type 0
Gains who m n = (account m who).status ≡ NotParticipating → ((account n who).status ≡ NotParticipating) × ((account m who).balance ≤ (account n who).balance)

credited_apart : (level : ℕ) (r : AccountRow) → r.status ≡ NotParticipating → credited level r ≡ r
credited_apart level r e = ap (λ s. if is_apart s then r else record r { balance = r.balance + earned level r; base = level }) e

status_credited : (level : ℕ) (r : AccountRow) → (credited level r).status ≡ r.status
status_credited level r = elim (is_apart r.status) as (λ (t : Bool). (if t then r else record r { balance = r.balance + earned level r; base = level }).status ≡ r.status) [ true ↦ refl | false ↦ refl ]

-- a zero row participates
pub no_zero : (r : AccountRow) → r.status ≡ NotParticipating → r ≡ record no_account { base = r.base } → ⊥
no_zero r is e = let x : Offline ≡ NotParticipating = sym (ap (λ (a : AccountRow). a.status) e) ∙ is in cc

pub stays_set : (who a : Address) (m : RowMap) (r : AccountRow) → r.status ≡ (account m a).status → Stays who m (set_account m a r)
stays_set who a m r same is = at_set (λ p. (account_in p).status ≡ NotParticipating) m (key.Account a) (unless_zero (row.Account r)) (key.Account who)
    (λ e. let apart : r.status ≡ NotParticipating = same ∙ ap (λ k. (account_in (get m k)).status) e ∙ is in
    at_unless (λ s. s.status ≡ NotParticipating) r apart (λ z. absurd (no_zero r apart z)))
    (λ _. is)

stays_steps : (level : ℕ) (pool who : Address) → IsStep (Stays pool) level who
stays_steps level pool who = record {
  same = λ m h. h;
  on = λ m k n h g is. g (h is);
  gives = λ m b _. stays_set pool who m (record (credited level (account m who)) { balance = b }) (status_credited level (account m who));
  takes = λ m to amount _. stays_set pool to m (record (credited level (account m to)) { balance = (credited level (account m to)).balance + amount }) (status_credited level (account m to));
  signs = λ m auth _. stays_set pool who m (record (account m who) { auth = auth }) refl;
}

-- another account is set
gains_other : (who a : Address) (m : RowMap) (o : Option Row) → same_address a who ≡ false → Gains who m (set_at m (key.Account a) o)
gains_other who a m o apart is = let same = other_account m a who o apart in (ap (λ (r : AccountRow). r.status) same ∙ is, omega (arith, ap (λ (r : AccountRow). r.balance) same))

-- an account is set to no less
gains_set : (who a : Address) (m : RowMap) (r : AccountRow) → ((account m a).status ≡ NotParticipating → (r.status ≡ NotParticipating) × ((account m a).balance ≤ r.balance)) → Gains who m (set_account m a r)
gains_set who a m r more is = at_set (λ p. ((account_in p).status ≡ NotParticipating) × ((account m who).balance ≤ (account_in p).balance)) m (key.Account a) (unless_zero (row.Account r)) (key.Account who)
    (λ e. let same : account m a ≡ account m who = ap (λ k. account_in (get m k)) e in
    let h = more (ap (λ (s : AccountRow). s.status) same ∙ is) in
    at_unless (λ s. (s.status ≡ NotParticipating) × ((account m who).balance ≤ s.balance)) r (h.0, omega (arith, ap (λ (s : AccountRow). s.balance) same)) (λ z. absurd (no_zero r h.0 z)))
    (λ _. (is, omega arith))

gains_steps : (level : ℕ) (pool who : Address) → same_address who pool ≡ false → IsStep (Gains pool) level who
gains_steps level pool who apart = record {
  same = λ m is. (is, omega arith);
  on = λ m k n h g is. (let a = h is in let b = g a.0 in (b.0, omega arith));
  gives = λ m b _. gains_other pool who m (unless_zero (row.Account (record (credited level (account m who)) { balance = b }))) apart;
  takes = λ m to amount _. gains_set pool to m (record (credited level (account m to)) { balance = (credited level (account m to)).balance + amount })
      (λ is. let same = credited_apart level (account m to) is in (status_credited level (account m to) ∙ is, omega (arith, ap (λ (s : AccountRow). s.balance) same)));
  signs = λ m auth _. gains_other pool who m (unless_zero (row.Account (record (account m who) { auth = auth }))) apart;
}

gains_close : (level : ℕ) (pool who : Address) → same_address who pool ≡ false → IsClose (Gains pool) who
gains_close level pool who apart old m none h = (gains_steps level pool who apart).on old m (set_at m (key.Account who) None) h (gains_other pool who m None apart)

stays_close : (pool who : Address) → same_address who pool ≡ false → IsClose (Stays pool) who
stays_close pool who apart old m none h = λ is. (gains_other pool who m None apart (h is)).0

-- ---- all of these

pub record Calm (level : ℕ) (special : Option Special) (m n : RowMap) : Type 0 where
  pub keeps : Keeps level m n
  pub pool : IfSome special (λ s. Gains s.pool m n)
  pub sink : IfSome special (λ s. Stays s.sink m n)

-- where the pool is told, it is not the sender
pub calm_steps : (level : ℕ) (special : Option Special) (who : Address) → IfSome special (λ s. same_address who s.pool ≡ false) → IsStep (Calm level special) level who
calm_steps level None who apart =
    let k = keeps_steps level who in
    record {
      same = λ m. record { keeps = k.same m; pool = tt; sink = tt };
      on = λ m j n x y. record { keeps = k.on m j n x.keeps y.keeps; pool = tt; sink = tt };
      gives = λ m b l. record { keeps = k.gives m b l; pool = tt; sink = tt };
      takes = λ m to amount l. record { keeps = k.takes m to amount l; pool = tt; sink = tt };
      signs = λ m auth l. record { keeps = k.signs m auth l; pool = tt; sink = tt };
    }
calm_steps level (Some special) who apart =
    let k = keeps_steps level who in
    let g = gains_steps level special.pool who apart in
    let s = stays_steps level special.sink who in
    record {
      same = λ m. record { keeps = k.same m; pool = g.same m; sink = s.same m };
      on = λ m j n x y. record { keeps = k.on m j n x.keeps y.keeps; pool = g.on m j n x.pool y.pool; sink = s.on m j n x.sink y.sink };
      gives = λ m b l. record { keeps = k.gives m b l; pool = g.gives m b l; sink = s.gives m b l };
      takes = λ m to amount l. record { keeps = k.takes m to amount l; pool = g.takes m to amount l; sink = s.takes m to amount l };
      signs = λ m auth l. record { keeps = k.signs m auth l; pool = g.signs m auth l; sink = s.signs m auth l };
    }

-- neither pool nor sink closes, where they are told
pub calm_close : (level : ℕ) (special : Option Special) (who : Address) → IfSome special (λ s. (same_address who s.pool ≡ false) × (same_address who s.sink ≡ false)) → IsClose (Calm level special) who
calm_close level None who apart old m none h = record {
  keeps = keeps_close level who old m none h.keeps;
  pool = tt;
  sink = tt;
}
calm_close level (Some special) who apart old m none h = record {
  keeps = keeps_close level who old m none h.keeps;
  pool = gains_close level special.pool who apart.0 old m none h.pool;
  sink = stays_close special.sink who apart.1 old m none h.sink;
}
