-- No transaction makes or loses money.
use Rattle.std.proofs.Common.{◌≡◌, ◌≢◌, ℕ, ◌+◌, ◌-◌, ◌*◌, ◌/◌, ◌<◌, ◌≤◌, min, refl, sym, ap, ◌∙◌, List, Option, Some, None, Bool, true, false, cond, not, arith, Result, Ok, Err, nat_eq, nat_lt, nat_le, ◌||◌, ◌&&◌, if◌then◌else◌, ltb-true, ltb-false, rules, tests, zero-mul, mul-zero, mul-add, mul_comm, leb-true, IfSome, [], ◌∷◌, is_none}
use Rattle.std.specs.Option.{option_or}
use Rattle.al_base.specs.declared.account.Special.{Special}
use Rattle.al_rewards.specs.declared.share.Share.{Share}
use Rattle.al_rewards.specs.Pending.{is_apart, pending, reward_unit}
use Rattle.al_rows.specs.Limits.{max_balance}
use Rattle.al_rows.proofs.Sames.{account_true}
use Rattle.al_rows.specs.Rows.{min_balance, same_row}
use Rattle.al_rows.specs.Finite.{first_some}
use Rattle.std.specs.Cmp.Lexicographic.{lists_ties}
use Rattle.std.specs.Ordering.{nat_cmp}
use Rattle.std.specs.Cmp.{unsigned_ties}
use Rattle.std.specs.Cmp.Lexicographic.{nat_list_eq_equiv}
use Rattle.std.specs.BTreeMap.{is_at}
use Rattle.std.specs.FinMap.{get, keys}
use Rattle.al_base.specs.declared.address.Address.{Address}
use Rattle.al_base.specs.declared.key.Key.{Key}
use Rattle.al_base.specs.declared.key.Key.TheVariants as key
use Rattle.al_rows.specs.declared.row.Row.{Row}
use Rattle.al_rows.specs.declared.row.Row.TheVariants as row
use Rattle.al_rows.specs.declared.account.AccountRow.{AccountRow}
use Rattle.al_base.specs.Keys.{key_cmp}
use Rattle.al_rows.specs.Finite.{set_at, weight, total}
use Rattle.al_rows.specs.Rows.{RowMap, is_zero, is_zero_account, unless_zero, account, account_in, set_account, no_account, no_address}
use Rattle.al_rows.proofs.Keys.{keys_total, exact_keys}
use Rattle.al_rows.proofs.Maps.{total-set_at, total-same, total-plus, total-times}
use Rattle.al_overlay.specs.declared.rule.Rule.{Rule}
use Rattle.al_bodies.specs.declared.body.Pay.{Pay}
use Rattle.al_overlay.specs.Rules.{then_do, unless_refused, of_account, too_little}
use Rattle.al_overlay.specs.Accounts.{same_address, share_of, earned, credited, put_account, give, take_in, moved}
use Rattle.al_moves.specs.Pay.{has_no_counts, closed_at, closed, paid_amount, paid_close, paid, rekeyed}
use Rattle.al_moves.specs.Minimum.{checked, first_shortfall, shortfall, lacking}
use Rattle.al_moves.specs.Money.{worth, money, IsFair, MovesAreFair, IsExact, units, RiseIsEarned}
use Rattle.al_overlay.proofs.Overlays.{get-set}

-- ---- one account

nat_le_itself : (n : ℕ) → nat_le n n ≡ true
nat_le_itself n = search (rules, tests)

or_true : (a : Bool) → (a || true) ≡ true
or_true true = refl
or_true false = refl

-- where the rewards were given nothing is pending
pub none_pending : (level : ℕ) (s : Share) → s.base ≡ level → pending level s ≡ 0
unfolding pending
none_pending level s e =
    ap (λ n. cond (is_apart s.status || nat_le level n) 0 (min max_balance (s.balance / reward_unit * (level - s.base)))) e
    ∙ ap (λ c. cond (is_apart s.status || c) 0 (min max_balance (s.balance / reward_unit * (level - s.base)))) (nat_le_itself level)
    ∙ ap (λ c. cond c 0 (min max_balance (s.balance / reward_unit * (level - s.base)))) (or_true (is_apart s.status))

pub pending_apart : (level : ℕ) (s : Share) → is_apart s.status ≡ true → pending level s ≡ 0
unfolding pending
pending_apart level s e = ap (λ b. cond (b || nat_le level s.base) 0 (min max_balance (s.balance / reward_unit * (level - s.base)))) e

worth_credited : (level : ℕ) (r : AccountRow) → (credited level r).balance ≡ worth level (row.Account r)
worth_credited level r = by_test (is_apart r.status) refl
  where
    by_test : (b : Bool) → is_apart r.status ≡ b → (if b then r else record r { balance = r.balance + earned level r; base = level }).balance ≡ r.balance + earned level r
    by_test true e = omega (arith, pending_apart level (share_of r) e)
    by_test false e = refl

-- a credited account with another balance is worth that
pub worth_with : (level new : ℕ) (r : AccountRow) → worth level (row.Account (record (credited level r) { balance = new })) ≡ new
worth_with level new r = by_test (is_apart r.status) refl
  where
    by_test : (b : Bool) → is_apart r.status ≡ b → new + earned level (record (if b then r else record r { balance = r.balance + earned level r; base = level }) { balance = new }) ≡ new
    by_test true e = omega (arith, pending_apart level (share_of (record r { balance = new })) e)
    by_test false e = omega (arith, none_pending level (share_of (record r { balance = new; base = level })) refl)

pub empty_pending : (level : ℕ) (s : Share) → s.balance ≡ 0 → pending level s ≡ 0
unfolding pending
empty_pending level s e =
    let z : min max_balance (s.balance / reward_unit * (level - s.base)) ≡ 0 = ap (λ n. min max_balance (n / reward_unit * (level - s.base))) e ∙ ap (min max_balance) (zero-mul (level - s.base)) in
    ap (cond (is_apart s.status || nat_le level s.base) 0) z ∙ same (is_apart s.status || nat_le level s.base)
  where
    same : (b : Bool) → cond {A = ℕ} b 0 0 ≡ 0
    same true = refl
    same false = refl

worth_zero : (level : ℕ) (r : AccountRow) → is_zero (row.Account r) ≡ true → worth level (row.Account r) ≡ 0
unfolding is_zero is_zero_account
worth_zero level r h =
    let e : r.balance ≡ 0 = ap (λ (a : AccountRow). a.balance) (account_true r (record no_account { base = r.base }) h) in
    omega (arith, empty_pending level (share_of r) e)

-- ---- the rows

abbrev each : ℕ → Key → Row → ℕ
each level k r = worth level r

nothing_worth : (level : ℕ) → worth level (row.Account no_account) ≡ 0
nothing_worth level = omega (arith, empty_pending level (share_of no_account) refl)

pub weight_account : (level : ℕ) (who : Address) (o : Option Row) → weight (each level) (key.Account who) o ≡ worth level (row.Account (account_in o))
weight_account level who None = sym (nothing_worth level)
weight_account level who (Some (row.Account r)) = refl
weight_account level who (Some (row.Asset a)) = sym (nothing_worth level)
weight_account level who (Some (row.App a)) = sym (nothing_worth level)
weight_account level who (Some (row.Box b)) = sym (nothing_worth level)

weight_kept : (level : ℕ) (who : Address) (r : AccountRow) → weight (each level) (key.Account who) (unless_zero (row.Account r)) ≡ worth level (row.Account r)
weight_kept level who r = by_test (is_zero (row.Account r)) refl
  where
    by_test : (b : Bool) → is_zero (row.Account r) ≡ b → weight (each level) (key.Account who) (cond b None (Some (row.Account r))) ≡ worth level (row.Account r)
    by_test true e = sym (worth_zero level r e)
    by_test false e = refl

pub money_set : (level : ℕ) (m : RowMap) (who : Address) (r : AccountRow) → money level (set_account m who r) + worth level (row.Account (account m who)) ≡ money level m + worth level (row.Account r)
unfolding money
money_set level m who r =
    ap (λ n. total (each level) (set_account m who r) + n) (sym (weight_account level who (get m (key.Account who))))
    ∙ total-set_at keys_total exact_keys (each level) m (key.Account who) (unless_zero (row.Account r))
    ∙ ap (λ n. total (each level) m + n) (weight_kept level who r)

money_remove : (level : ℕ) (m : RowMap) (who : Address) → money level (set_at m (key.Account who) None) + worth level (row.Account (account m who)) ≡ money level m
unfolding money
money_remove level m who =
    ap (λ n. total (each level) (set_at m (key.Account who) None) + n) (sym (weight_account level who (get m (key.Account who))))
    ∙ total-set_at keys_total exact_keys (each level) m (key.Account who) None ∙ omega arith

pub worth-le-money : (level : ℕ) (m : RowMap) (who : Address) → worth level (row.Account (account m who)) ≤ money level m
worth-le-money level m who = omega (arith, money_remove level m who)

-- an account after one was set
pub same_is : (a b : Address) → is_at (key_cmp (key.Account a)) (key.Account b) ≡ same_address a b
same_is a b = sym (lists_ties nat_cmp unsigned_ties a.0 b.0)

pub account-set : (m : RowMap) (a b : Address) (o : Option Row) → account (set_at m (key.Account a) o) b ≡ account_in (cond (same_address a b) o (get m (key.Account b)))
account-set m a b o = ap account_in (get-set m (key.Account a) o (key.Account b) ∙ ap (λ c. cond c o (get m (key.Account b))) (same_is a b))

-- ---- the steps

-- more comes in, or goes out
IsFairBy : ℕ → RowMap → ℕ → ℕ → Result RowMap Rule → Type 0
IsFairBy level m more less (Ok n) = money level n + less ≡ money level m + more
IsFairBy level m more less (Err r) = money level m + more ≤ max_balance + less → r.number ≢ 41

four : (n : ℕ) → n ≡ 40 → n ≢ 41
four n e f = absurd (omega arith)

put_is : (level : ℕ) (m : RowMap) (who : Address) (r : AccountRow) (more less : ℕ) → worth level (row.Account r) + less ≡ worth level (row.Account (account m who)) + more → r.balance ≤ worth level (row.Account r) → IsFairBy level m more less (put_account m who r)
unfolding IsFairBy
put_is level m who r more less e within = by_test (nat_lt max_balance r.balance) refl
  where
    by_test : (b : Bool) → nat_lt max_balance r.balance ≡ b → IsFairBy level m more less (if b then Err (of_account 41 who) else Ok (set_account m who r))
    by_test true t = λ h. absurd (let l : max_balance < r.balance = ltb-true max_balance r.balance t in omega (arith, worth-le-money level m who))
    by_test false t = omega (arith, money_set level m who r)

given_is : (level : ℕ) (who : Address) (amount : ℕ) (m : RowMap) (c : AccountRow) → c.balance ≡ worth level (row.Account (account m who)) → ((b : ℕ) → worth level (row.Account (record c { balance = b })) ≡ b)
    → (b : Bool) → nat_lt c.balance amount ≡ b → IsFairBy level m 0 amount (if b then Err (too_little 40 c.balance amount who) else put_account m who (record c { balance = c.balance - amount }))
unfolding IsFairBy
given_is level who amount m c is with true t = λ _. four 40 refl
given_is level who amount m c is with false t =
    let le : amount ≤ c.balance = ltb-false c.balance amount t in
    let w = with (c.balance - amount) in
    put_is level m who (record c { balance = c.balance - amount }) 0 amount (omega arith) (omega arith)

give_is : (level : ℕ) (who : Address) (amount : ℕ) (m : RowMap) → IsFairBy level m 0 amount (give level who amount m)
unfolding give
give_is level who amount m = given_is level who amount m (credited level (account m who)) (worth_credited level (account m who)) (λ b. worth_with level b (account m who)) (nat_lt (credited level (account m who)).balance amount) refl

take_is : (level : ℕ) (who : Address) (amount : ℕ) (m : RowMap) → IsFairBy level m amount 0 (take_in level who amount m)
unfolding take_in
take_is level who amount m =
    let c = credited level (account m who) in
    let w = worth_with level (c.balance + amount) (account m who) in
    put_is level m who (record c { balance = c.balance + amount }) amount 0 (omega (arith, worth_credited level (account m who))) (omega arith)

then_fair : (level : ℕ) (m : RowMap) (less : ℕ) (due : Result RowMap Rule) (f : RowMap → Result RowMap Rule) → IsFairBy level m 0 less due → ((n : RowMap) → due ≡ Ok n → IsFairBy level n less 0 (f n)) → IsFair level m (then_do due f)
unfolding IsFairBy
then_fair level m less (Ok n) f h g = after (f n) (g n refl)
  where
    after : (r : Result RowMap Rule) → IsFairBy level n less 0 r → IsFair level m r
    after (Ok k) e = omega arith
    after (Err r) e = λ l. e (omega arith)
then_fair level m less (Err r) f h g = λ l. h (omega arith)

pub moved_is : (level : ℕ) (from to : Address) (amount : ℕ) (m : RowMap) → IsFair level m (moved level from to amount m)
unfolding moved
moved_is level from to amount m = then_fair level m amount (give level from amount m) (λ n. take_in level to amount n) (give_is level from amount m) (λ n _. take_is level to amount n)

-- ---- what a step that was not refused has left

pub then_ok : (due : Result RowMap Rule) (f : RowMap → Result RowMap Rule) (n : RowMap) → then_do due f ≡ Ok n → (k : RowMap) × (due ≡ Ok k) × (f k ≡ Ok n)
then_ok (Ok k) f n e = (k, refl, e)
then_ok (Err r) f n e = absurd (let x : Err r ≡ Ok n = e in cc)

pub pick_ok : (b : Bool) (r : Rule) (x : Result RowMap Rule) (n : RowMap) → (if b then Err r else x) ≡ Ok n → x ≡ Ok n
pick_ok true r x n e = absurd (let y : Err r ≡ Ok n = e in cc)
pick_ok false r x n e = e

pub ok_same : (m n : RowMap) → ◌≡◌ {A = Result RowMap Rule} (Ok m) (Ok n) → m ≡ n
ok_same m n e = cc

pub put_ok : (m : RowMap) (who : Address) (r : AccountRow) (n : RowMap) → put_account m who r ≡ Ok n → set_account m who r ≡ n
put_ok m who r n e = ok_same _ _ (pick_ok (nat_lt max_balance r.balance) (of_account 41 who) (Ok (set_account m who r)) n e)

worth_kept : (level : ℕ) (who : Address) (r : AccountRow) → worth level (row.Account (account_in (unless_zero (row.Account r)))) ≡ worth level (row.Account r)
worth_kept level who r = sym (weight_account level who (unless_zero (row.Account r))) ∙ weight_kept level who r

pub same_itself : (a : Address) → same_address a a ≡ true
same_itself a = nat_list_eq_equiv.refl a.0

-- what gives all that it has is worth nothing
give_all : (level : ℕ) (who : Address) (m k : RowMap) → give level who (credited level (account m who)).balance m ≡ Ok k → worth level (row.Account (account k who)) ≡ 0
unfolding give
give_all level who m k e =
    let c = credited level (account m who) in
    let r : AccountRow = record c { balance = c.balance - c.balance } in
    let is : set_account m who r ≡ k = put_ok m who r k (pick_ok (nat_lt c.balance c.balance) (too_little 40 c.balance c.balance who) (put_account m who r) k e) in
    ap (λ (n : RowMap). worth level (row.Account (account n who))) (sym is)
    ∙ ap (λ a. worth level (row.Account a)) (account-set m who who (unless_zero (row.Account r)) ∙ ap (λ b. account_in (cond b (unless_zero (row.Account r)) (get m (key.Account who)))) (same_itself who))
    ∙ worth_kept level who r ∙ worth_with level (c.balance - c.balance) (account m who) ∙ omega arith

take_other : (level : ℕ) (who other : Address) (amount : ℕ) (k n : RowMap) → same_address who other ≡ false → take_in level who amount k ≡ Ok n → account n other ≡ account k other
unfolding take_in
take_other level who other amount k n apart e =
    let c = credited level (account k who) in
    let r : AccountRow = record c { balance = c.balance + amount } in
    ap (λ (m : RowMap). account m other) (sym (put_ok k who r n e)) ∙ account-set k who other (unless_zero (row.Account r)) ∙ ap (λ b. account_in (cond b (unless_zero (row.Account r)) (get k (key.Account other)))) apart

all_moved : (level : ℕ) (who to : Address) (m n : RowMap) → same_address to who ≡ false → moved level who to (credited level (account m who)).balance m ≡ Ok n → worth level (row.Account (account n who)) ≡ 0
unfolding moved
all_moved level who to m n apart e =
    let rest = (credited level (account m who)).balance in
    let t = then_ok (give level who rest m) (λ k. take_in level to rest k) n e in
    ap (λ a. worth level (row.Account a)) (take_other level to who rest t.0 n apart t.2) ∙ give_all level who m t.0 t.1

-- ---- bodies

-- one fair step after another
pub fair_then : (level : ℕ) (m : RowMap) (due : Result RowMap Rule) (f : RowMap → Result RowMap Rule) → IsFair level m due → ((n : RowMap) → due ≡ Ok n → IsFair level n (f n)) → IsFair level m (then_do due f)
fair_then level m (Ok n) f h g = after (f n) (g n refl)
  where
    after : (r : Result RowMap Rule) → IsFair level n r → IsFair level m r
    after (Ok k) e = e ∙ h
    after (Err r) e = λ l. e (omega arith)
fair_then level m (Err r) f h g = h

fair_if : (level : ℕ) (m : RowMap) (b : Bool) (x y : Result RowMap Rule) → (b ≡ true → IsFair level m x) → (b ≡ false → IsFair level m y) → IsFair level m (if b then x else y)
fair_if level m true x y p q = p refl
fair_if level m false x y p q = q refl

or_first : (a b : Bool) → (a || b) ≡ false → a ≡ false
or_first true b h = h
or_first false b h = refl

pub closed_is : (level : ℕ) (who to : Address) (m : RowMap) → IsFair level m (closed level who to m)
unfolding closed closed_at
closed_is level who to m =
    let r = account m who in
    fair_if level m (same_address to who || not (has_no_counts r)) _ _
    (λ _ _. λ (e : 43 ≡ 41). absurd (omega arith))
    (λ apart. fair_then level m (moved level who to (credited level r).balance m) (λ n. Ok (set_at n (key.Account who) None)) (moved_is level who to (credited level r).balance m)
    (λ n is. omega (arith, money_remove level n who, all_moved level who to m n (or_first _ _ apart) is)))

pub paid_is : (level : ℕ) (who : Address) (p : Pay) (m : RowMap) → IsFair level m (paid level who p m)
unfolding paid paid_amount paid_close
paid_is level who p m = fair_then level m (paid_amount level who p m) (λ n. paid_close level who p n)
    (fair_if level m (nat_eq p.amount 0 && same_address p.receiver no_address) (Ok m) (moved level who p.receiver p.amount m) (λ _. refl) (λ _. moved_is level who p.receiver p.amount m))
    (λ n _. fair_if level n (same_address p.close no_address) (Ok n) (closed level who p.close n) (λ _. refl) (λ _. closed_is level who p.close n))

worth_rekeyed : (level : ℕ) (r : AccountRow) (to : Address) → worth level (row.Account (record r { auth = to })) ≡ worth level (row.Account r)
worth_rekeyed level r to = refl

within : (level : ℕ) (r : AccountRow) → r.balance ≤ worth level (row.Account r)
within level r = omega arith

unchanged_fair : (level : ℕ) (m : RowMap) (r : Result RowMap Rule) → IsFairBy level m 0 0 r → IsFair level m r
unfolding IsFairBy
unchanged_fair level m (Ok n) h = omega arith
unchanged_fair level m (Err r) h = λ l. h (omega arith)

pub rekeyed_is : (level : ℕ) (who to : Address) (m : RowMap) → IsFair level m (rekeyed who to m)
unfolding rekeyed
rekeyed_is level who to m =
    let r = account m who in
    let auth = if same_address to who then no_address else to in
    fair_if level m (same_address to no_address) (Ok m) (put_account m who (record r { auth = auth })) (λ _. refl)
    (λ _. unchanged_fair level m (put_account m who (record r { auth = auth })) (put_is level m who (record r { auth = auth }) 0 0 (ap (λ n. n + 0) (worth_rekeyed level r auth)) (within level (record r { auth = auth }))))

abbrev IsMinimum : Option Rule → Type 0
IsMinimum o = IfSome o (λ r. r.number ≡ 42)

lacking_is : (level : ℕ) (who : Address) (r : AccountRow) → IsMinimum (lacking level who r)
lacking_is level who r = elim (nat_lt (r.balance + earned level r) (min_balance r)) as (λ b. IsMinimum (if b then Some (too_little 42 (r.balance + earned level r) (min_balance r) who) else None)) [ true ↦ refl | false ↦ tt ]

shortfall_is : (level : ℕ) (special : Special) (q : Key) (old now : Option Row) → IsMinimum (shortfall level special q old now)
shortfall_is level special (key.Resource a i) old now = tt
shortfall_is level special (key.Box i n) old now = tt
shortfall_is level special (key.Account who) old now =
    elim (same_address who special.sink || same_address who special.pool || is_none now || same_row old now) as (λ b. IsMinimum (if b then None else lacking level who (account_in now))) [ true ↦ tt | false ↦ lacking_is level who (account_in now) ]

or_is : (o p : Option Rule) → IsMinimum o → IsMinimum p → IsMinimum (option_or o p)
or_is None p h g = g
or_is (Some r) p h g = h

first_is : (f : Key → Option Rule) (ks : List Key) → ((q : Key) → IsMinimum (f q)) → IsMinimum (first_some f ks)
first_is f [] h = tt
first_is f (k ∷ ks) h = or_is (f k) (first_some f ks) (h k) (first_is f ks h)

refused_is : (level : ℕ) (m : RowMap) (o : Option Rule) → IsMinimum o → IsFair level m (unless_refused o m)
refused_is level m None h = refl
refused_is level m (Some r) h = λ l e. absurd (omega arith)

-- what lacks its minimum is refused by rule 42
pub shortfall_number : (level : ℕ) (special : Special) (start m : RowMap) → IfSome (first_shortfall level special start m) (λ r. r.number ≡ 42)
unfolding first_shortfall
shortfall_number level special start m = first_is _ (keys m) (λ q. shortfall_is level special q (get start q) (get m q))

pub checked_is : (level : ℕ) (special : Special) (start m : RowMap) → IsFair level m (checked level special start m)
unfolding first_shortfall
checked_is level special start m = refused_is level m (first_shortfall level special start m) (first_is _ (keys m) (λ q. shortfall_is level special q (get start q) (get m q)))

pub moves_are_fair : MovesAreFair
moves_are_fair = record { moved = moved_is; paid = paid_is; rekeyed = rekeyed_is; checked = checked_is }

-- ---- the level rises

pending_is : (level : ℕ) (s : Share) → is_apart s.status ≡ false → s.base ≤ level → s.balance / reward_unit * (level - s.base) ≤ max_balance → pending level s ≡ s.balance / reward_unit * (level - s.base)
unfolding pending
pending_is level s apart low few = ap (λ b. cond (b || nat_le level s.base) 0 (min max_balance (s.balance / reward_unit * (level - s.base)))) apart ∙ by_test (nat_le level s.base) refl
  where
    by_test : (b : Bool) → nat_le level s.base ≡ b → cond b 0 (min max_balance (s.balance / reward_unit * (level - s.base))) ≡ s.balance / reward_unit * (level - s.base)
    by_test true t =
        let le : level ≤ s.base = leb-true level s.base t in
        let z : level - s.base ≡ 0 = omega arith in
        sym (ap (λ n. s.balance / reward_unit * n) z ∙ mul-zero (s.balance / reward_unit))
    by_test false t = omega arith

pub worth_raised : (level rise : ℕ) (r : AccountRow) → IsExact level rise r → worth (level + rise) (row.Account r) ≡ worth level (row.Account r) + rise * units (row.Account r)
worth_raised level rise r exact = by_status (is_apart r.status) refl
  where
    by_status : (b : Bool) → is_apart r.status ≡ b → r.balance + earned (level + rise) r ≡ r.balance + earned level r + rise * cond b 0 (r.balance / reward_unit)
    by_status true e = omega (arith, pending_apart (level + rise) (share_of r) e, pending_apart level (share_of r) e, mul-zero rise)
    by_status false e =
        let u = r.balance / reward_unit in
        let low : r.base ≤ level = (exact e).0 in
        let few : u * (level + rise - r.base) ≤ max_balance = (exact e).1 in
        let split : level + rise - r.base ≡ (level - r.base) + rise = omega arith in
        let parts : u * (level + rise - r.base) ≡ u * (level - r.base) + u * rise = ap (λ n. u * n) split ∙ mul-add u (level - r.base) rise in
        let less : u * (level - r.base) ≤ max_balance = omega arith in
        let up : r.base ≤ level + rise = omega arith in
        omega (arith, pending_is (level + rise) (share_of r) e up few, pending_is level (share_of r) e low less, parts, mul_comm u rise)

-- the money at the higher level is the money and what all units earn
pub money_raised : RiseIsEarned
unfolding money
money_raised level rise m exact =
    total-same keys_total (λ k r. worth (level + rise) r) (λ k r. worth level r + rise * units r) m (λ k r is. by_row k r is)
    ∙ total-plus keys_total (λ k r. worth level r) (λ k r. rise * units r) m
    ∙ ap (λ n. total (λ k r. worth level r) m + n) (total-times keys_total rise (λ k r. units r) m)
  where
    by_row : (k : Key) (r : Row) → get m k ≡ Some r → worth (level + rise) r ≡ worth level r + rise * units r
    by_row k (row.Account r) is = worth_raised level rise r (exact k r is)
    by_row k (row.Asset a) is = omega (arith, mul-zero rise)
    by_row k (row.App a) is = omega (arith, mul-zero rise)
    by_row k (row.Box b) is = omega (arith, mul-zero rise)
