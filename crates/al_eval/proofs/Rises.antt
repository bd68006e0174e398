-- The level rises, and the pool pays what all units earn: the money does not grow, and stays where the pool does not participate.
use Rattle.std.proofs.Common.{◌≡◌, ◌≤◌, ◌+◌, ◌-◌, ◌*◌, ◌/◌, ℕ, min, refl, sym, ap, ◌∙◌, subst, arith, Bool, true, false, cond, ◌||◌, if◌then◌else◌, nat_le, leb-true, mul-add, mul_comm, mul-zero, Some, None}
use Rattle.std.specs.FinMap.{get}
use Rattle.std.specs.BTreeMap.{is_at}
use Rattle.al_base.specs.declared.account.Status.TheVariants.{NotParticipating}
use Rattle.al_base.specs.declared.address.Address.{Address}
use Rattle.al_base.specs.declared.key.Key.{Key}
use Rattle.al_base.specs.declared.key.Key.TheVariants as key
use Rattle.al_base.specs.Keys.{key_cmp}
use Rattle.al_rewards.specs.declared.share.Share.{Share}
use Rattle.al_rewards.specs.Next.{least_pool}
use Rattle.al_rewards.specs.Pending.{is_apart, pending, reward_unit}
use Rattle.al_rows.specs.Limits.{max_balance}
use Rattle.al_rows.specs.declared.account.AccountRow.{AccountRow}
use Rattle.al_rows.specs.declared.row.Row.{Row}
use Rattle.al_rows.specs.declared.row.Row.TheVariants as row
use Rattle.al_rows.specs.Finite.{set_at, weight, total}
use Rattle.al_rows.specs.Rows.{RowMap, account, account_in, set_account}
use Rattle.al_rows.proofs.Keys.{keys_total, exact_keys}
use Rattle.al_rows.proofs.Maps.{total-remove, weight-le-total}
use Rattle.al_overlay.specs.Accounts.{earned, share_of}
use Rattle.al_moves.specs.Money.{IsExact, worth, money, units}
use Rattle.al_overlay.proofs.Overlays.{get-set, same_key}
use Rattle.al_moves.proofs.Monies.{pending_apart, weight_account, worth-le-money, money_set, money_raised}
use Rattle.al_resources.proofs.Steadies.{AllBased}

-- ---- one account and the pool

-- two keys weigh at most what all weigh
two_weigh : (w : Key → Row → ℕ) (m : RowMap) (k q : Key) → is_at (key_cmp k) q ≡ false → weight w k (get m k) + weight w q (get m q) ≤ total w m
two_weigh w m k q apart =
    let left : get (set_at m k None) q ≡ get m q = get-set m k None q ∙ ap (λ b. cond b None (get m q)) apart in
    omega (arith, total-remove keys_total exact_keys w m k, weight-le-total keys_total exact_keys w (set_at m k None) q, ap (weight w q) left)

pending_least : (level : ℕ) (s : Share) → is_apart s.status ≡ false → s.base ≤ level → min max_balance (s.balance / reward_unit * (level - s.base)) ≤ pending level s
unfolding pending
pending_least level s apart low = subst (λ b. min max_balance (s.balance / reward_unit * (level - s.base)) ≤ cond (b || nat_le level s.base) 0 (min max_balance (s.balance / reward_unit * (level - s.base)))) (sym apart) (by_test (nat_le level s.base) refl)
  where
    by_test : (b : Bool) → nat_le level s.base ≡ b → min max_balance (s.balance / reward_unit * (level - s.base)) ≤ cond b 0 (min max_balance (s.balance / reward_unit * (level - s.base)))
    by_test true t =
        let le : level ≤ s.base = leb-true level s.base t in
        let z : level - s.base ≡ 0 = omega arith in
        omega (arith, ap (λ n. s.balance / reward_unit * n) z, mul-zero (s.balance / reward_unit))
    by_test false t = omega arith

more_times : (a b c : ℕ) → a ≤ b → a * c ≤ b * c
more_times a b c l =
    let split : b ≡ a + (b - a) = omega arith in
    omega (arith, ap (λ n. c * n) split, mul-add c a (b - a), mul_comm a c, mul_comm b c)

less_share : (a b : ℕ) → a ≤ b → a / reward_unit ≤ b / reward_unit
less_share a b l = omega arith

-- with less an account has no more pending
earns_no_more : (level : ℕ) (r : AccountRow) (b : ℕ) → b ≤ r.balance → earned level (record r { balance = b }) ≤ earned level r
unfolding pending
earns_no_more level r b l =
    by_test (is_apart r.status || nat_le level r.base) (b / reward_unit * (level - r.base)) (r.balance / reward_unit * (level - r.base)) (more_times (b / reward_unit) (r.balance / reward_unit) (level - r.base) (less_share b r.balance l))
  where
    by_test : (t : Bool) (x y : ℕ) → x ≤ y → (if t then 0 else min max_balance x) ≤ (if t then 0 else min max_balance y)
    by_test true x y l = omega arith
    by_test false x y l = omega arith

module _ (level rise : ℕ) (m : RowMap) (pool : Address) where
  -- what all units earn
  abbrev all_earn : ℕ
  all_earn = total (λ k r. units r) m * rise

  -- what an account has pending and what the pool has are together at most all the money
  with_pool : (k : Key) (r : AccountRow) → get m k ≡ Some (row.Account r) → earned level r + (account m pool).balance ≤ money level m
  unfolding money
  with_pool k r is = by_test (is_at (key_cmp k) (key.Account pool)) refl
    where
      by_test : (b : Bool) → is_at (key_cmp k) (key.Account pool) ≡ b → earned level r + (account m pool).balance ≤ total (λ k r. worth level r) m
      by_test true e =
          let same : r ≡ account m pool = ap account_in (sym is ∙ ap (get m) (same_key k (key.Account pool) e)) in
          omega (arith, worth-le-money level m pool, ap (earned level) same)
      by_test false e =
          let both = two_weigh (λ k r. worth level r) m k (key.Account pool) e in
          let first : weight (λ k r. worth level r) k (get m k) ≡ worth level (row.Account r) = ap (weight (λ k r. worth level r) k) is in
          let second = weight_account level pool (get m (key.Account pool)) in
          omega arith

  -- an account that earns has less than the most, with what it earns
  earns_less : (k : Key) (r : AccountRow) → get m k ≡ Some (row.Account r) → is_apart r.status ≡ false → r.base ≤ level → money level m ≤ max_balance → all_earn + least_pool ≤ (account m pool).balance → r.balance / reward_unit * (level + rise - r.base) ≤ max_balance
  earns_less k r is earns low few enough =
      let u = r.balance / reward_unit in
      let own : weight (λ k r. units r) k (get m k) ≡ u = ap (weight (λ k r. units r) k) is ∙ ap (λ b. if b then 0 else u) earns in
      let share : u ≤ total (λ k r. units r) m = omega (arith, weight-le-total keys_total exact_keys (λ k r. units r) m k) in
      let part : u * rise ≤ all_earn = more_times u (total (λ k r. units r) m) rise share in
      let split : level + rise - r.base ≡ (level - r.base) + rise = omega arith in
      let parts : u * (level + rise - r.base) ≡ u * (level - r.base) + u * rise = ap (λ n. u * n) split ∙ mul-add u (level - r.base) rise in
      let least = pending_least level (share_of r) earns low in
      omega (arith, with_pool k r is)

  -- so each account's rewards are counted exactly at the higher level
  pub exact_rows : money level m ≤ max_balance → AllBased level m → all_earn + least_pool ≤ (account m pool).balance → (k : Key) (r : AccountRow) → get m k ≡ Some (row.Account r) → IsExact level rise r
  exact_rows few based enough k r is earns = (based k r is earns, earns_less k r is earns (based k r is earns) few enough)

  -- the same rows are worth more by what all units earn, which is at most what the pool has
  pub money_before : money level m ≤ max_balance → AllBased level m → all_earn + least_pool ≤ (account m pool).balance → (money (level + rise) m ≡ money level m + all_earn) × (all_earn ≤ money level m)
  money_before few based enough =
      (money_raised level rise m (exact_rows few based enough) ∙ ap (λ n. money level m + n) (mul_comm rise (total (λ k r. units r) m)), omega (arith, worth-le-money level m pool))

  -- the pool after it paid
  abbrev poorer : AccountRow
  poorer = record (account m pool) { balance = (account m pool).balance - all_earn }

  -- the rows after the pool paid are worth at the higher level at most what those before were
  pub money_within : money level m ≤ max_balance → AllBased level m → all_earn + least_pool ≤ (account m pool).balance → money (level + rise) (set_account m pool poorer) ≤ money level m
  money_within few based enough =
      let raised = (money_before few based enough).0 in
      let set = money_set (level + rise) m pool poorer in
      omega (arith, earns_no_more (level + rise) (account m pool) ((account m pool).balance - all_earn) (omega arith))

  -- and just that where the pool does not participate
  pub money_risen : money level m ≤ max_balance → AllBased level m → (account m pool).status ≡ NotParticipating → all_earn + least_pool ≤ (account m pool).balance → money (level + rise) (set_account m pool poorer) ≡ money level m
  money_risen few based apart enough =
      let raised = (money_before few based enough).0 in
      let set = money_set (level + rise) m pool poorer in
      let old = pending_apart (level + rise) (share_of (account m pool)) (ap is_apart apart) in
      let new = pending_apart (level + rise) (share_of poorer) (ap is_apart apart) in
      omega arith
