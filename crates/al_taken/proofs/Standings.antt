-- What each account has while a generated chain runs: a user has nearly all of its money and few counts, and another account can bear its boxes.
use Rattle.std.proofs.Common.{◌≡◌, ◌≤◌, ◌+◌, ◌-◌, ◌*◌, ℕ, refl, sym, ap, ◌∙◌, subst, arith, Bool, true, false, ◌&&◌, ◌||◌, if◌then◌else◌, nat_le, nat_lt, ◌⊎◌, inr, get_or, replicate, Option, Some, None, Result, Ok, Err, ltb-true}
use Rattle.std.specs.FinMap.{get}
use Rattle.al_base.specs.declared.account.Special.{Special}
use Rattle.al_base.specs.declared.address.Address.{Address}
use Rattle.al_base.specs.declared.key.Key.TheVariants as key
use Rattle.al_rewards.specs.Pending.{is_apart}
use Rattle.al_rows.specs.Limits.{max_balance}
use Rattle.al_rows.specs.declared.account.AccountRow.{AccountRow}
use Rattle.al_rows.specs.declared.row.Row.{Row}
use Rattle.al_rows.specs.declared.row.Row.TheVariants as row
use Rattle.al_rows.specs.Rows.{RowMap, account, account_in, is_zero, is_zero_account, no_account, set_account, unless_zero}
use Rattle.al_rows.proofs.Sames.{account_true}
use Rattle.al_overlay.specs.declared.rule.Rule.{Rule}
use Rattle.al_overlay.specs.Rules.{of_account, then_do, too_little}
use Rattle.al_overlay.specs.Accounts.{credited, earned, give, moved, put_account, same_address, take_in}
use Rattle.al_moves.specs.Resources.{app_account}
use Rattle.al_resources.proofs.Recounts.{at_set}
use Rattle.al_resources.proofs.Steadies.{address_is, counts_of}

-- ---- accounts

-- one of the 32 users
unfoldable pub is_user : Address → Bool
is_user a = nat_le 16 (get_or a.0 0 0) && (nat_lt (get_or a.0 0 0) 48 && same_address a (record { 0 = replicate 32 (get_or a.0 0 0) }))

abbrev pub is_special : Special → Address → Bool
is_special s a = same_address a s.sink || same_address a s.pool

-- the account of the application that was paid for
abbrev pub is_app : Option ℕ → Address → Bool
is_app None a = false
is_app (Some app) a = same_address (app_account app) a

-- bounds: the transactions so far, what one user spent at most, and the boxes of the application
pub record Most : Type 0 where
  pub count : ℕ
  pub spent : ℕ
  pub boxes : ℕ

-- they are so low that each account keeps its least
pub record IsFew (b : Most) : Type 0 where
  pub money : b.spent + 100000 * b.count + 1000000 ≤ 1000000000000
  pub boxed : b.boxes ≤ 16

-- an account's counts: at most so many assets and applications, and boxes of 40 bytes
pub record Modest (most boxes : ℕ) (r : AccountRow) : Type 0 where
  pub held : r.assets_held + r.apps_created ≤ most
  pub created : r.assets_created ≤ most
  pub opted : r.apps_opted ≡ 0
  pub pages : r.extra_pages ≡ 0
  pub uints : r.uints ≡ 0
  pub slices : r.byte_slices ≡ 0
  pub boxed : r.boxes ≤ boxes
  pub bytes : r.box_bytes ≤ 40 * boxes

pub record Rich (b : Most) (r : AccountRow) : Type 0 where
  pub counts : Modest b.count b.boxes r
  pub active : is_apart r.status ≡ false
  pub money : 1000000000000 ≤ r.balance + b.spent

pub record Poor (b : Most) (paid : Bool) (o : Option Row) : Type 0 where
  pub counts : Modest 0 b.boxes (account_in o)
  pub there : ((o ≡ None) × (paid ≡ false)) ⊎ (1000000 ≤ (account_in o).balance)

-- by whether it is a user's, and whether it is sink or pool
abbrev pub Standing : Bool → Bool → Most → Bool → Option Row → Type 0
Standing true special b paid o = Rich b (account_in o)
Standing false true b paid o = Unit {0}
Standing false false b paid o = Poor b paid o

abbrev pub AllStand : Special → Option ℕ → Most → RowMap → Type 0
AllStand s app b m = (a : Address) → Standing (is_user a) (is_special s a) b (is_app app a) (get m (key.Account a))

-- the same of a row that is set
abbrev pub Good : Bool → Bool → Most → AccountRow → Type 0
Good true special b r = Rich b r
Good false true b r = Unit {0}
Good false false b r = Modest 0 b.boxes r × (1000000 ≤ r.balance)

-- ---- bounds that rise

pub record IsMore (b c : Most) : Type 0 where
  pub count : b.count ≤ c.count
  pub spent : b.spent ≤ c.spent
  pub boxes : b.boxes ≤ c.boxes

pub modest_more : (m n x y : ℕ) (r : AccountRow) → m ≤ n → x ≤ y → Modest m x r → Modest n y r
modest_more m n x y r p q h = record {
  held = omega (arith, h.held);
  created = omega (arith, h.created);
  opted = h.opted;
  pages = h.pages;
  uints = h.uints;
  slices = h.slices;
  boxed = omega (arith, h.boxed);
  bytes = omega (arith, h.bytes);
}

pub rich_more : (b c : Most) (r : AccountRow) → IsMore b c → Rich b r → Rich c r
rich_more b c r m h = record { counts = modest_more b.count c.count b.boxes c.boxes r m.count m.boxes h.counts; active = h.active; money = omega (arith, h.money, m.spent) }

stands_more : (user special : Bool) (b c : Most) (paid : Bool) (o : Option Row) → IsMore b c → Standing user special b paid o → Standing user special c paid o
stands_more true special b c paid o m h = rich_more b c (account_in o) m h
stands_more false true b c paid o m h = tt
stands_more false false b c paid o m h = record { counts = modest_more 0 0 b.boxes c.boxes (account_in o) (omega arith) m.boxes h.counts; there = h.there }

pub all_more : (s : Special) (app : Option ℕ) (b c : Most) (m : RowMap) → IsMore b c → AllStand s app b m → AllStand s app c m
all_more s app b c m more all a = stands_more (is_user a) (is_special s a) b c (is_app app a) (get m (key.Account a)) more (all a)

-- ---- an account is set

pub zero_balance : (r : AccountRow) → is_zero (row.Account r) ≡ true → r.balance ≡ 0
unfolding is_zero is_zero_account
zero_balance r e = ap (λ (x : AccountRow). x.balance) (account_true r (record no_account { base = r.base }) e)

pub row_stands : (user special : Bool) (b : Most) (paid : Bool) (r : AccountRow) → IsFew b → Good user special b r → (z : Bool) → is_zero (row.Account r) ≡ z → Standing user special b paid (if z then None else Some (row.Account r))
row_stands true special b paid r few g true e = absurd (omega (arith, g.money, few.money, zero_balance r e))
row_stands true special b paid r few g false e = g
row_stands false true b paid r few g z e = tt
row_stands false false b paid r few g true e = absurd (omega (arith, g.1, zero_balance r e))
row_stands false false b paid r few g false e = record { counts = g.0; there = inr g.1 }

pub set_stands : (s : Special) (app : Option ℕ) (b : Most) (m : RowMap) (who : Address) (r : AccountRow) → IsFew b → Good (is_user who) (is_special s who) b r → AllStand s app b m → AllStand s app b (set_account m who r)
set_stands s app b m who r few g all a =
    at_set (Standing (is_user a) (is_special s a) b (is_app app a)) m (key.Account who) (unless_zero (row.Account r)) (key.Account a)
    (λ e. subst (λ (x : Address). Standing (is_user x) (is_special s x) b (is_app app x) (unless_zero (row.Account r))) (address_is who a e)
    (row_stands (is_user who) (is_special s who) b (is_app app who) r few g (is_zero (row.Account r)) refl))
    (λ _. all a)

pub rich_of : (s : Special) (app : Option ℕ) (b : Most) (m : RowMap) (who : Address) → is_user who ≡ true → AllStand s app b m → Rich b (account m who)
rich_of s app b m who is all = subst (λ (t : Bool). Standing t (is_special s who) b (is_app app who) (get m (key.Account who)) → Rich b (account m who)) (sym is) (λ h. h) (all who)

pub good_user : (s : Special) (b : Most) (who : Address) (r : AccountRow) → is_user who ≡ true → Rich b r → Good (is_user who) (is_special s who) b r
good_user s b who r is h = subst (λ (t : Bool). Good t (is_special s who) b r) (sym is) h

-- ---- rows with the same counts

pub modest_as : (most boxes : ℕ) (r q : AccountRow) → counts_of q ≡ counts_of r → Modest most boxes r → Modest most boxes q
modest_as most boxes r q e h = record {
  held = omega (arith, h.held, ap (λ (a : AccountRow). a.assets_held) e, ap (λ (a : AccountRow). a.apps_created) e);
  created = omega (arith, h.created, ap (λ (a : AccountRow). a.assets_created) e);
  opted = ap (λ (a : AccountRow). a.apps_opted) e ∙ h.opted;
  pages = ap (λ (a : AccountRow). a.extra_pages) e ∙ h.pages;
  uints = ap (λ (a : AccountRow). a.uints) e ∙ h.uints;
  slices = ap (λ (a : AccountRow). a.byte_slices) e ∙ h.slices;
  boxed = omega (arith, h.boxed, ap (λ (a : AccountRow). a.boxes) e);
  bytes = omega (arith, h.bytes, ap (λ (a : AccountRow). a.box_bytes) e);
}

counts_credited : (level : ℕ) (r : AccountRow) (n : ℕ) → counts_of (record (credited level r) { balance = n }) ≡ counts_of r
counts_credited level r n = elim (is_apart r.status) as (λ (t : Bool). counts_of (record (if t then r else record r { balance = r.balance + earned level r; base = level }) { balance = n }) ≡ counts_of r) [ true ↦ refl | false ↦ refl ]

more_credited : (level : ℕ) (r : AccountRow) → r.balance ≤ (credited level r).balance
more_credited level r = elim (is_apart r.status) as (λ (t : Bool). r.balance ≤ (if t then r else record r { balance = r.balance + earned level r; base = level }).balance) [ true ↦ omega arith | false ↦ omega arith ]

status_credited : (level : ℕ) (r : AccountRow) → is_apart (credited level r).status ≡ is_apart r.status
status_credited level r = elim (is_apart r.status) as (λ (t : Bool). is_apart (if t then r else record r { balance = r.balance + earned level r; base = level }).status ≡ is_apart r.status) [ true ↦ refl | false ↦ refl ]

-- an amount less, or more
abbrev pub spend : Most → ℕ → Most
spend b amount = record b { spent = b.spent + amount }

rich_given : (b : Most) (level amount : ℕ) (r : AccountRow) → Rich b r → Rich (spend b amount) (record (credited level r) { balance = (credited level r).balance - amount })
rich_given b level amount r h = record {
  counts = modest_as b.count b.boxes r _ (counts_credited level r ((credited level r).balance - amount)) h.counts;
  active = status_credited level r ∙ h.active;
  money = omega (arith, h.money, more_credited level r);
}

pub good_taken : (user special : Bool) (b : Most) (paid : Bool) (level amount : ℕ) (o : Option Row) → (user ≡ false → special ≡ false → 1000000 ≤ amount) → Standing user special b paid o
    → Good user special b (record (credited level (account_in o)) { balance = (credited level (account_in o)).balance + amount })
good_taken true special b paid level amount o much h = record {
  counts = modest_as b.count b.boxes (account_in o) _ (counts_credited level (account_in o) ((credited level (account_in o)).balance + amount)) h.counts;
  active = status_credited level (account_in o) ∙ h.active;
  money = omega (arith, h.money, more_credited level (account_in o));
}
good_taken false true b paid level amount o much h = tt
good_taken false false b paid level amount o much h =
    (modest_as 0 b.boxes (account_in o) _ (counts_credited level (account_in o) ((credited level (account_in o)).balance + amount)) h.counts, omega (arith, much refl refl))

-- ---- steps

-- what holds of the rows after a step; it is refused by the most of a balance alone
abbrev pub Passes : (RowMap → Type 0) → Result RowMap Rule → Type 0
Passes P (Ok n) = P n
Passes P (Err r) = r.number ≡ 41

pub passes_then : (P Q : RowMap → Type 0) (due : Result RowMap Rule) (f : RowMap → Result RowMap Rule) → Passes P due → ((n : RowMap) → P n → Passes Q (f n)) → Passes Q (then_do due f)
passes_then P Q (Ok n) f h g = g n h
passes_then P Q (Err r) f h g = h

-- what stays where an account is set
abbrev pub IsCalm : (RowMap → Type 0) → Type 0
IsCalm Q = (m : RowMap) (who : Address) (r : AccountRow) → Q m → Q (set_account m who r)

module _ (s : Special) (app : Option ℕ) (Q : RowMap → Type 0) (calm : IsCalm Q) where
  abbrev pub At : Most → RowMap → Type 0
  At b m = AllStand s app b m × Q m

  put_passes : (b : Most) (m : RowMap) (who : Address) (r : AccountRow) → IsFew b → Good (is_user who) (is_special s who) b r → At b m → Passes (At b) (put_account m who r)
  put_passes b m who r few g h = by_test (nat_lt max_balance r.balance)
    where
      by_test : (t : Bool) → Passes (At b) (if t then Err (of_account 41 who) else Ok (set_account m who r))
      by_test true = refl
      by_test false = (set_stands s app b m who r few g h.0, calm m who r h.1)

  spends : (b : Most) (amount : ℕ) (m : RowMap) → At b m → At (spend b amount) m
  spends b amount m h = (all_more s app b (spend b amount) m (record { count = omega arith; spent = omega arith; boxes = omega arith }) h.0, h.1)

  pub give_passes : (b : Most) (level : ℕ) (who : Address) (amount : ℕ) (m : RowMap) → is_user who ≡ true → IsFew (spend b amount) → At b m → Passes (At (spend b amount)) (give level who amount m)
  unfolding give
  give_passes b level who amount m is few h = by_test (nat_lt (credited level (account m who)).balance amount) refl
    where
      by_test : (t : Bool) → nat_lt (credited level (account m who)).balance amount ≡ t → Passes (At (spend b amount)) (if t then Err (too_little 40 (credited level (account m who)).balance amount who) else put_account m who (record (credited level (account m who)) { balance = (credited level (account m who)).balance - amount }))
      by_test true e =
          let rich = rich_of s app b m who is h.0 in
          absurd (omega (arith, ltb-true (credited level (account m who)).balance amount e, rich.money, more_credited level (account m who), few.money))
      by_test false e = put_passes (spend b amount) m who (record (credited level (account m who)) { balance = (credited level (account m who)).balance - amount }) few
          (good_user s (spend b amount) who _ is (rich_given b level amount (account m who) (rich_of s app b m who is h.0))) (spends b amount m h)

  take_passes : (b : Most) (level : ℕ) (to : Address) (amount : ℕ) (m : RowMap) → IsFew b → (is_user to ≡ false → is_special s to ≡ false → 1000000 ≤ amount) → At b m → Passes (At b) (take_in level to amount m)
  unfolding take_in
  take_passes b level to amount m few much h =
      put_passes b m to (record (credited level (account m to)) { balance = (credited level (account m to)).balance + amount }) few
      (good_taken (is_user to) (is_special s to) b (is_app app to) level amount (get m (key.Account to)) much (h.0 to)) h

  pub moved_passes : (b : Most) (level : ℕ) (from to : Address) (amount : ℕ) (m : RowMap) → is_user from ≡ true → IsFew (spend b amount) → (is_user to ≡ false → is_special s to ≡ false → 1000000 ≤ amount) → At b m → Passes (At (spend b amount)) (moved level from to amount m)
  unfolding moved
  moved_passes b level from to amount m is few much h =
      passes_then (At (spend b amount)) (At (spend b amount)) (give level from amount m) (λ n. take_in level to amount n) (give_passes b level from amount m is few h) (λ n k. take_passes (spend b amount) level to amount n few much k)

  -- a user's account with other keys
  pub rekeys : (b : Most) (who : Address) (m : RowMap) (r : AccountRow) → is_user who ≡ true → IsFew b → is_apart r.status ≡ false → r.balance ≡ (account m who).balance → counts_of r ≡ counts_of (account m who) → At b m → At b (set_account m who r)
  rekeys b who m r is few active same counts h =
      let rich = rich_of s app b m who is h.0 in
      (set_stands s app b m who r few (good_user s b who r is (record { counts = modest_as b.count b.boxes (account m who) r counts rich.counts; active = active; money = omega (arith, same, rich.money) })) h.0, calm m who r h.1)
