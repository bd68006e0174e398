-- How a block comes to what is due.
use Rattle.std.proofs.Common.{◌≡◌, refl, ℕ, ◌+◌, ◌-◌, List, [], ◌∷◌, Result, Ok, Err, Option, Some, None, Bool, true, false, if◌then◌else◌, nat_lt, ◌⊎◌, inl, inr}
use Rattle.std.specs.List.{AllByRecursion}
use Rattle.al_block.specs.declared.header.Field.{Field}
use Rattle.al_block.specs.declared.block.Block.{Block}
use Rattle.al_rows.specs.Rows.{RowMap, account, set_account}
use Rattle.al_rewards.specs.Next.{least_pool}
use Rattle.al_overlay.specs.Rules.{then_do}
use Rattle.al_moves.specs.Money.{units}
use Rattle.al_eval.specs.declared.before.Before.{Before}
use Rattle.al_tail.specs.declared.tail.Entry.{Entry}
use Rattle.al_eval.specs.Refusals.{Refusal, broken, header, pool_short, expired}
use Rattle.al_eval.specs.Header.{first_fault, header_checks, rewards_checks, payset_fault, counter_fault, unless_fault}
use Rattle.al_eval.specs.Pool.{rewards_due, owed_by, pool_paid}
use Rattle.al_eval.specs.Expiry.{all_expired}
use Rattle.al_eval.specs.Items.{all_items, Ran}
use Rattle.al_eval.specs.Steps.{block_rows}
use Rattle.al_eval.proofs.Expiries.{then_expired}

pub all_pass : (cs : List (Bool × Field)) → first_fault cs ≡ None → AllByRecursion (λ c. c.0 ≡ true) cs
all_pass [] h = tt
all_pass (c ∷ cs) h = by_test c.0 refl h (all_pass cs)
  where
    by_test : (b : Bool) → c.0 ≡ b → (if b then first_fault cs else Some c.1) ≡ None → (first_fault cs ≡ None → AllByRecursion (λ c. c.0 ≡ true) cs) → (c.0 ≡ true) × AllByRecursion (λ c. c.0 ≡ true) cs
    by_test true e k rest = (e, rest k)
    by_test false e k rest = absurd (let x : ◌≡◌ {A = Option Field} (Some c.1) None = k in cc)

-- the tests of the header and of its rewards
pub record IsPassed (s : Before) (units : ℕ) (b : Block) (m : RowMap) : Type 0 where
  pub header : AllByRecursion (λ c. c.0 ≡ true) (header_checks s b.header)
  pub rewards : AllByRecursion (λ c. c.0 ≡ true) (rewards_checks (rewards_due s b.header.round units m) b.header)

-- the pool's balance is too little for what is owed
abbrev pub is_short : Before → ℕ → Block → RowMap → Bool
is_short s units b m = nat_lt (account m s.chain.special.pool).balance (owed_by s units b.header + least_pool)

-- the rows after the pool paid
abbrev pub after_pool : Before → ℕ → Block → RowMap → RowMap
after_pool s units b m = set_account m s.chain.special.pool (record (account m s.chain.special.pool) { balance = (account m s.chain.special.pool).balance - owed_by s units b.header })

abbrev pub items_of : Before → ℕ → List Entry → Block → RowMap → Result Ran Refusal
items_of s units past b m = all_items s.chain b.header.level b.header.round 0 past s.header.counter 0 b.items (after_pool s units b m)

-- how a block comes to what is due
abbrev pub BlockIs : Before → ℕ → List Entry → Block → RowMap → Result RowMap Refusal → Type 0
BlockIs s units past b m (Ok n) = IsPassed s units b m × (is_short s units b m ≡ false) × ((r : Ran) × (items_of s units past b m ≡ Ok r) × (all_expired b.header.round 0 b.header.expired r.rows ≡ Ok n) × (counter_fault b.header r.counter ≡ None))
BlockIs s units past b m (Err (broken p r)) = IsPassed s units b m × (is_short s units b m ≡ false) × (items_of s units past b m ≡ Err (broken p r))
BlockIs s units past b m (Err (header f)) = Unit {0}
BlockIs s units past b m (Err (expired p)) = Unit {0}
BlockIs s units past b m (Err (pool_short p o)) = IsPassed s units b m × ((is_short s units b m ≡ true) ⊎ ((is_short s units b m ≡ false) × (items_of s units past b m ≡ Err (pool_short p o))))

then_none : (P : Result RowMap Refusal → Type 0) (o : Option Field) (m : RowMap) (f : RowMap → Result RowMap Refusal) → ((e : Field) → P (Err (header e))) → (o ≡ None → P (f m)) → P (then_do (unless_fault o m) f)
then_none P None m f h g = g refl
then_none P (Some e) m f h g = h e

then_enough : (P : Result RowMap Refusal → Type 0) (b : Bool) (r : Refusal) (k : RowMap) (f : RowMap → Result RowMap Refusal) → (b ≡ true → P (Err r)) → (b ≡ false → P (f k)) → P (then_do (if b then Err r else Ok k) f)
then_enough P true r k f h g = h refl
then_enough P false r k f h g = g refl

then_each : (P : Result RowMap Refusal → Type 0) (due : Result Ran Refusal) (f : Ran → Result RowMap Refusal) → ((r : Refusal) → due ≡ Err r → P (Err r)) → ((n : Ran) → due ≡ Ok n → P (f n)) → P (then_do due f)
then_each P (Ok n) f h g = g n refl
then_each P (Err r) f h g = h r refl

last_none : (P : Result RowMap Refusal → Type 0) (o : Option Field) (n : RowMap) → ((e : Field) → P (Err (header e))) → (o ≡ None → P (Ok n)) → P (unless_fault o n)
last_none P None n h g = g refl
last_none P (Some e) n h g = h e

items_refused : (s : Before) (units : ℕ) (past : List Entry) (b : Block) (m : RowMap) → IsPassed s units b m → is_short s units b m ≡ false → (r : Refusal) → items_of s units past b m ≡ Err r → BlockIs s units past b m (Err r)
items_refused s units past b m passed enough (broken p r) e = (passed, enough, e)
items_refused s units past b m passed enough (header f) e = tt
items_refused s units past b m passed enough (pool_short p o) e = (passed, inr (enough, e))
items_refused s units past b m passed enough (expired p) e = tt

pub block_is : (s : Before) (units : ℕ) (past : List Entry) (b : Block) (m : RowMap) → BlockIs s units past b m (block_rows s units past b m)
unfolding block_rows pool_paid
block_is s units past b m =
    let P = BlockIs s units past b m in
    then_none P (first_fault (header_checks s b.header)) m _ (λ _. tt)
    (λ h. then_none P (first_fault (rewards_checks (rewards_due s b.header.round units m) b.header)) m _ (λ _. tt)
    (λ r. let passed : IsPassed s units b m = record { header = all_pass (header_checks s b.header) h; rewards = all_pass (rewards_checks (rewards_due s b.header.round units m) b.header) r } in
    then_enough P (is_short s units b m) (pool_short (account m s.chain.special.pool).balance (owed_by s units b.header)) (after_pool s units b m) _ (λ short. (passed, inl short))
    (λ enough. then_none P (payset_fault b) (after_pool s units b m) _ (λ _. tt)
    (λ _. then_each P (items_of s units past b m) (λ n. then_do (all_expired b.header.round 0 b.header.expired n.rows) (λ k. unless_fault (counter_fault b.header n.counter) k)) (items_refused s units past b m passed enough)
    (λ n is. then_expired P b.header.round 0 b.header.expired n.rows (λ k. unless_fault (counter_fault b.header n.counter) k) (λ _. tt)
    (λ k out. last_none P (counter_fault b.header n.counter) k (λ _. tt) (λ c. (passed, enough, (n, is, out, c)))))))))
