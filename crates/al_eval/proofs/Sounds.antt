-- A block leads from a consistent state to a consistent state, and from a sound one to a sound one.
use Rattle.std.proofs.Common.{◌≡◌, ◌≤◌, ◌<◌, ◌+◌, ◌-◌, ◌*◌, ℕ, refl, sym, ap, ◌∙◌, subst, arith, Bool, true, false, if◌then◌else◌, ◌⊎◌, inl, inr, nat_eq, ltb-true, ltb-false, eqb-true, Option, Some, None, Result, Ok, Err, List, map}
use Rattle.std.specs.FinMap.{get}
use Rattle.std.proofs.lemmas.List.Elements.{recursion_from_All}
use Rattle.al_base.specs.declared.account.Special.{Special}
use Rattle.al_base.specs.declared.account.Status.TheVariants.{NotParticipating}
use Rattle.al_base.specs.declared.address.Address.{Address}
use Rattle.al_base.specs.declared.key.Key.{Key}
use Rattle.al_base.specs.declared.key.Key.TheVariants as key
use Rattle.al_block.specs.declared.header.Field.{Field}
use Rattle.al_block.specs.declared.header.Field.TheVariants as field
use Rattle.al_block.specs.declared.block.Block.{Block}
use Rattle.al_rewards.specs.declared.state.RewardsState.{RewardsState}
use Rattle.al_rewards.specs.Next.{least_pool, next_rewards}
use Rattle.al_rewards.specs.Totals.{all_units}
use Rattle.al_rows.specs.Limits.{max_balance}
use Rattle.al_rows.specs.declared.account.AccountRow.{AccountRow}
use Rattle.al_rows.specs.declared.row.Row.TheVariants as row
use Rattle.al_rows.specs.Finite.{total}
use Rattle.al_rows.specs.Rows.{RowMap, bare, account, account_in, set_account, unless_zero}
use Rattle.al_moves.specs.Money.{money, units, IsExact}
use Rattle.al_moves.specs.Totals.{counts}
use Rattle.al_moves.proofs.Counts.{units_counted}
use Rattle.al_tail.specs.declared.tail.Entry.{Entry}
use Rattle.al_tail.specs.Past.{entry_of}
use Rattle.al_resources.specs.Kept.{AreAppsApart, Kept}
use Rattle.al_resources.specs.Sound.{SoundRows}
use Rattle.al_resources.proofs.Agrees.{rows_kept}
use Rattle.al_resources.proofs.Recounts.{account_based}
use Rattle.al_resources.proofs.Steadies.{Keeps, AllInRange, account_ranged, at_set, at_unless, no_zero, stays_set, keeps_account}
use Rattle.al_eval.specs.Body.{IsItemInRange}
use Rattle.al_eval.specs.Refusals.{Refusal, broken, header, pool_short, expired}
use Rattle.al_eval.specs.Expiry.{all_expired}
use Rattle.al_eval.specs.Items.{Ran}
use Rattle.al_eval.specs.Steps.{block_rows}
use Rattle.al_eval.specs.Pool.{rewards_of, owed_by}
use Rattle.al_eval.specs.Header.{header_checks, rewards_checks, counter_fault}
use Rattle.al_eval.specs.Sound.{Apart, AreInRange, Consistent, MayCome, Sound, StepIsSound}
use Rattle.al_eval.specs.State.{State, before_of, counts_in, after, step}
use Rattle.al_eval.proofs.Chains.{bare_stamped, step_ok, step_err}
use Rattle.al_eval.proofs.Expiries.{expired_kept}
use Rattle.al_eval.proofs.Passes.{IsPassed, BlockIs, is_short, after_pool, items_of, block_is}
use Rattle.al_eval.proofs.Pools.{CanPay, due_until, can_pay, never_falls}
use Rattle.al_eval.proofs.Rises.{exact_rows, money_before, money_risen, money_within}
use Rattle.al_eval.proofs.Runs.{EndsAll, IsOtherRefusal, count_is, items_good, last_count}
use Rattle.al_eval.proofs.Wells.{IsWatched}

-- a sound state is consistent
pub consistent_of : (s : State) → Sound s → Consistent s
consistent_of s sound = record {
  money = sound.rows.money;
  bases = sound.rows.bases;
  ranges = sound.rows.ranges;
  resources = sound.rows.resources;
  holdings = sound.rows.holdings;
  counts = sound.rows.counts;
  sink = tt;
  pool = tt;
}

none_if : (b : Bool) (f : Field) → (if b then None else Some f) ≡ None → b ≡ true
none_if true f e = refl
none_if false f e = absurd (let x : ◌≡◌ {A = Option Field} (Some f) None = e in cc)

-- ---- the header

same_rewards : (r d : RewardsState) → r.level ≡ d.level → r.rate ≡ d.rate → r.residue ≡ d.residue → r.recalc ≡ d.recalc → r ≡ d
same_rewards r d a b c e =
    ap (λ n. record r { level = n }) a ∙ ap (λ n. record r { level = d.level; rate = n }) b
    ∙ ap (λ n. record r { level = d.level; rate = d.rate; residue = n }) c ∙ ap (λ n. record r { level = d.level; rate = d.rate; residue = d.residue; recalc = n }) e

-- a block begins over a consistent state: its header is the one that is due, and the pool has what is owed
record Begins (s : State) (b : Block) : Type 0 where
  consistent : Consistent s
  passed : IsPassed (before_of s) (all_units (counts_in s)) b (bare s.rows)
  owed : is_short (before_of s) (all_units (counts_in s)) b (bare s.rows) ≡ false

module _ (s : State) (b : Block) where
  abbrev rows : RowMap
  rows = bare s.rows

  abbrev special : Special
  special = s.chain.special

  abbrev pool : Address
  pool = s.chain.special.pool

  abbrev all : ℕ
  all = all_units (counts_in s)

  abbrev purse : ℕ
  purse = (account rows pool).balance

  abbrev rise : ℕ
  rise = b.header.level - s.header.level

  abbrev poorer : AccountRow
  poorer = record (account rows pool) { balance = purse - all * rise }

  abbrev paid : RowMap
  paid = after_pool (before_of s) all b rows

  abbrev due : RewardsState
  due = next_rewards (rewards_of s.header) b.header.round s.chain.interval purse all

  round_is : IsPassed (before_of s) all b rows → b.header.round ≡ s.header.round + 1
  unfolding header_checks
  round_is h = eqb-true b.header.round (s.header.round + 1) h.header.0

  rewards_are : IsPassed (before_of s) all b rows → rewards_of b.header ≡ due
  unfolding rewards_checks
  rewards_are h =
      let r = h.rewards in
      same_rewards (rewards_of b.header) due (eqb-true b.header.level due.level r.1.1.1.0) (eqb-true b.header.rate due.rate r.0) (eqb-true b.header.residue due.residue r.1.1.0) (eqb-true b.header.recalc due.recalc r.1.0)

  rises : IsPassed (before_of s) all b rows → s.header.level ≤ b.header.level
  rises h =
      let level : b.header.level ≡ due.level = ap (λ (r : RewardsState). r.level) (rewards_are h) in
      omega (arith, level, never_falls (rewards_of s.header) b.header.round s.chain.interval purse all)

  level_is : IsPassed (before_of s) all b rows → b.header.level ≡ s.header.level + rise
  level_is h = omega (arith, rises h)

  units_are : all ≡ total (λ k r. units r) rows
  units_are = sym (units_counted s.header.level rows)

  enough : is_short (before_of s) all b rows ≡ false → total (λ k r. units r) rows * rise + least_pool ≤ purse
  enough e = subst (λ n. n * rise + least_pool ≤ purse) units_are (ltb-false purse (all * rise + least_pool) e)

  -- ---- over a consistent state

  exact : Begins s b → (k : Key) (r : AccountRow) → get rows k ≡ Some (row.Account r) → IsExact s.header.level rise r
  exact h = exact_rows s.header.level rise rows pool h.consistent.money h.consistent.bases (enough h.owed)

  money_raised : Begins s b → (money b.header.level rows ≡ money s.header.level rows + all * rise) × (all * rise ≤ money s.header.level rows)
  money_raised h =
      let before = money_before s.header.level rise rows pool h.consistent.money h.consistent.bases (enough h.owed) in
      let owed : all * rise ≡ total (λ k r. units r) rows * rise = ap (λ n. n * rise) units_are in
      (ap (λ n. money n rows) (level_is h.passed) ∙ before.0 ∙ ap (λ n. money s.header.level rows + n) (sym owed), omega (arith, before.1))

  most_money : Begins s b → money b.header.level rows ≤ 2 * max_balance
  most_money h = let raised = money_raised h in omega (arith, raised.0, raised.1, h.consistent.money)

  abbrev with_units : ℕ → RowMap
  with_units n = set_account rows pool (record (account rows pool) { balance = purse - n * rise })

  paid_within : Begins s b → money b.header.level paid ≤ money s.header.level rows
  paid_within h =
      subst (λ n. money n paid ≤ money s.header.level rows) (sym (level_is h.passed))
      (subst (λ n. money (s.header.level + rise) (with_units n) ≤ money s.header.level rows) (sym units_are)
      (money_within s.header.level rise rows pool h.consistent.money h.consistent.bases (enough h.owed)))

  most_purse : (m : RowMap) → AllInRange m → (account m pool).balance ≤ max_balance
  most_purse m all = (account_ranged pool (get m (key.Account pool)) (all (key.Account pool))).0

  keeps_paid : Keeps b.header.level rows paid
  keeps_paid = keeps_account b.header.level rows pool poorer refl (λ based. account_based b.header.level (get rows (key.Account pool)) (based (key.Account pool))) (λ all. omega (arith, most_purse rows all))

  -- the rows that the transactions begin with, where sink and pool are not watched
  unwatched_kept : Begins s b → Kept b.header.level None paid s.header.counter paid
  unwatched_kept h =
      let few : money b.header.level paid ≤ max_balance = omega (arith, paid_within h, h.consistent.money) in
      let more : s.header.counter ≤ s.header.counter = omega arith in
      record {
        rows = rows_kept s.header.level b.header.level s.header.counter s.header.counter None rows paid keeps_paid h.consistent (rises h.passed) more few tt tt;
        money = refl;
        pool = tt;
      }

  -- ---- over a sound state

  pays : Sound s → IsPassed (before_of s) all b rows → CanPay (rewards_of s.header) (rewards_of b.header) b.header.round purse all
  pays sound h =
      let next = round_is h in
      let left : s.header.recalc - b.header.round ≡ s.header.recalc - s.header.round - 1 = omega arith in
      subst (λ d. CanPay (rewards_of s.header) d b.header.round purse all) (sym (rewards_are h))
      (can_pay (rewards_of s.header) b.header.round s.chain.interval purse all sound.interval (omega (arith, sound.recalc)) (omega (arith, sound.fund, ap (λ n. s.header.rate * n) left)))

  not_short : Sound s → IsPassed (before_of s) all b rows → is_short (before_of s) all b rows ≡ true → ⊥
  not_short sound h short =
      let less : purse < owed_by (before_of s) all b.header + least_pool = ltb-true purse (owed_by (before_of s) all b.header + least_pool) short in
      omega (arith, (pays sound h).enough)

  money_paid : Sound s → Begins s b → money b.header.level paid ≡ money s.header.level rows
  money_paid sound h =
      ap (λ n. money n paid) (level_is h.passed) ∙ ap (λ n. money (s.header.level + rise) (with_units n)) units_are
      ∙ money_risen s.header.level rise rows pool h.consistent.money h.consistent.bases sound.rows.pool (enough h.owed)

  pool_paid_is : Sound s → ((account paid pool).status ≡ NotParticipating) × (purse - all * rise ≤ (account paid pool).balance)
  pool_paid_is sound = at_set (λ o. ((account_in o).status ≡ NotParticipating) × (purse - all * rise ≤ (account_in o).balance)) rows (key.Account pool) (unless_zero (row.Account poorer)) (key.Account pool)
      (λ _. at_unless (λ r. (r.status ≡ NotParticipating) × (purse - all * rise ≤ r.balance)) poorer (sound.rows.pool, omega arith) (λ z. absurd (no_zero poorer sound.rows.pool z)))
      (λ _. (sound.rows.pool, omega arith))

  sink_paid : Sound s → (account paid special.sink).status ≡ NotParticipating
  sink_paid sound = stays_set special.sink pool rows poorer refl sound.rows.sink

  -- and where they are
  watched_kept : Sound s → Begins s b → Kept b.header.level (Some special) paid s.header.counter paid
  watched_kept sound h =
      let few : money b.header.level paid ≤ max_balance = omega (arith, money_paid sound h, h.consistent.money) in
      let more : s.header.counter ≤ s.header.counter = omega arith in
      let less : (account paid pool).balance ≤ (account paid pool).balance = omega arith in
      record {
        rows = rows_kept s.header.level b.header.level s.header.counter s.header.counter (Some special) rows paid keeps_paid sound.rows (rises h.passed) more few (sink_paid sound) (pool_paid_is sound).0;
        money = refl;
        pool = less;
      }

  -- ---- the transactions

  abbrev tail : List Entry
  tail = map entry_of s.past

  abbrev ran : Result Ran Refusal
  ran = items_of (before_of s) all tail b rows

  -- the count after all transactions
  abbrev last : ℕ
  last = last_count s.header.counter b.items

  last_is : (r : Ran) → ran ≡ Ok r → r.counter ≡ last
  last_is r is = count_is s.chain b.header.level b.header.round 0 tail s.header.counter 0 b.items paid r is

  counter_is : (r : Ran) → counter_fault b.header r.counter ≡ None → b.header.counter ≡ r.counter
  counter_is r counted = eqb-true b.header.counter r.counter (none_if (nat_eq b.header.counter r.counter) field.Tc counted)

  -- what they leave
  good : AreInRange b → (watched : Option Special) → IsWatched s.chain watched → AreAppsApart watched last → Kept b.header.level watched paid s.header.counter paid → EndsAll (Kept b.header.level watched paid) ran
  good ranged watched told apart k = items_good s.chain watched told b.header.level b.header.round paid 0 tail s.header.counter 0 b.items paid tt (recursion_from_All IsItemInRange b.items ranged) apart k

  -- and what the accounts that expire leave of it
  ends : (watched : Option Special) (r : Ran) (n : RowMap) → EndsAll (Kept b.header.level watched paid) ran → ran ≡ Ok r → all_expired b.header.round 0 b.header.expired r.rows ≡ Ok n → Kept b.header.level watched paid r.counter n
  ends watched r n all is out = expired_kept b.header.level watched paid r.counter b.header.round 0 b.header.expired r.rows n out (subst (EndsAll (Kept b.header.level watched paid)) is all)

  unwatched_good : AreInRange b → Begins s b → EndsAll (Kept b.header.level None paid) ran
  unwatched_good ranged h = good ranged None tt (λ _ _. tt) (unwatched_kept h)

  -- the rows of the state after a block
  new_rows : (n : RowMap) → n ≡ bare (after s b n).rows
  new_rows n = sym (bare_stamped b.header.round s.rows n)

  rows_after : (watched : Option Special) (r : Ran) (n : RowMap) → counter_fault b.header r.counter ≡ None → SoundRows b.header.level r.counter watched n → SoundRows b.header.level b.header.counter watched (bare (after s b n).rows)
  rows_after watched r n counted k =
      subst (SoundRows b.header.level b.header.counter watched) (new_rows n) (subst (λ count. SoundRows b.header.level count watched n) (sym (counter_is r counted)) k)

  sound_after : AreInRange b → Sound s → Begins s b → (r : Ran) (n : RowMap) → ran ≡ Ok r → all_expired b.header.round 0 b.header.expired r.rows ≡ Ok n → counter_fault b.header r.counter ≡ None → Apart (after s b n) → Sound (after s b n)
  sound_after ranged sound h r n is out counted apart =
      let p = pays sound h.passed in
      let lasts : last ≤ b.header.counter + 1 = omega (arith, last_is r is, counter_is r counted) in
      let k = ends (Some special) r n (good ranged (Some special) refl (λ app l. apart app (omega (arith, l, lasts))) (watched_kept sound h)) is out in
      record {
        rows = rows_after (Some special) r n counted k.rows;
        interval = sound.interval;
        recalc = p.ahead;
        fund = subst (λ m. due_until (rewards_of b.header) b.header.round ≤ (account m pool).balance) (new_rows n) (omega (arith, p.still, (pool_paid_is sound).1, k.pool));
      }

-- ---- blocks

-- what is due of a block after a state
abbrev pub due_of : State → Block → Result RowMap Refusal
due_of s b = block_rows (before_of s) (all_units (counts_in s)) (map entry_of s.past) b (bare s.rows)

how_due : (s : State) (b : Block) (r : Result RowMap Refusal) → due_of s b ≡ r → BlockIs (before_of s) (all_units (counts_in s)) (map entry_of s.past) b (bare s.rows) r
how_due s b r e = subst (BlockIs (before_of s) (all_units (counts_in s)) (map entry_of s.past) b (bare s.rows)) e (block_is (before_of s) (all_units (counts_in s)) (map entry_of s.past) b (bare s.rows))

-- a block leads from a consistent state to these rows
pub record Leads (s : State) (b : Block) (n : RowMap) : Type 0 where
  pub rises : s.header.level ≤ b.header.level
  pub exact : (k : Key) (r : AccountRow) → get (bare s.rows) k ≡ Some (row.Account r) → IsExact s.header.level (b.header.level - s.header.level) r
  pub most : money b.header.level (bare s.rows) ≤ 2 * max_balance
  pub within : money b.header.level n ≤ max_balance
  pub consistent : Consistent (after s b n)
  pub sound : Sound s → Apart (after s b n) → Sound (after s b n)
  pub same : Sound s → money b.header.level n ≡ money s.header.level (bare s.rows)

pub block_leads : (s : State) (b : Block) (n : RowMap) → AreInRange b → Consistent s → due_of s b ≡ Ok n → Leads s b n
block_leads s b n ranged consistent e =
    let due = how_due s b (Ok n) e in
    let h : Begins s b = record { consistent = consistent; passed = due.0; owed = due.1 } in
    let ran = due.2 in
    let k = ends s b None ran.0 n (unwatched_good s b ranged h) ran.1 ran.2 in
    record {
      rises = rises s b h.passed;
      exact = exact s b h;
      most = most_money s b h;
      within = k.rows.money;
      consistent = rows_after s b None ran.0 n ran.3 k.rows;
      sound = λ sound. sound_after s b ranged sound h ran.0 n ran.1 ran.2 ran.3;
      same = λ sound. k.money ∙ money_paid s b sound h;
    }

-- what refuses a block over a consistent state
block_broken : (s : State) (b : Block) (r : Refusal) → AreInRange b → Begins s b → items_of (before_of s) (all_units (counts_in s)) (map entry_of s.past) b (bare s.rows) ≡ Err r → IsOtherRefusal r
block_broken s b r ranged h e = subst (EndsAll (Kept b.header.level None (after_pool (before_of s) (all_units (counts_in s)) b (bare s.rows)))) e (unwatched_good s b ranged h)

block_short : (s : State) (b : Block) (has owed : ℕ) → AreInRange b → Sound s → IsPassed (before_of s) (all_units (counts_in s)) b (bare s.rows)
    → (is_short (before_of s) (all_units (counts_in s)) b (bare s.rows) ≡ true) ⊎ ((is_short (before_of s) (all_units (counts_in s)) b (bare s.rows) ≡ false) × (items_of (before_of s) (all_units (counts_in s)) (map entry_of s.past) b (bare s.rows) ≡ Err (pool_short has owed))) → ⊥
block_short s b has owed ranged sound passed (inl short) = not_short s b sound passed short
block_short s b has owed ranged sound passed (inr e) = block_broken s b (pool_short has owed) ranged (record { consistent = consistent_of s sound; passed = passed; owed = e.0 }) e.1

pub block_refused : (s : State) (b : Block) (r : Refusal) → AreInRange b → Consistent s → due_of s b ≡ Err r → MayCome s r
block_refused s b (broken place rule) ranged consistent e = let h = how_due s b (Err (broken place rule)) e in block_broken s b (broken place rule) ranged (record { consistent = consistent; passed = h.0; owed = h.1 }) h.2
block_refused s b (header f) ranged consistent e = tt
block_refused s b (expired place) ranged consistent e = tt
block_refused s b (pool_short has owed) ranged consistent e = let h = how_due s b (Err (pool_short has owed)) e in λ sound. block_short s b has owed ranged sound h.0 h.1

-- the counts of the state after it are those of these rows
pub counts_after : (s : State) (b : Block) (n : RowMap) → counts_in (after s b n) ≡ counts b.header.level n
counts_after s b n = ap (counts b.header.level) (bare_stamped b.header.round s.rows n)

-- ---- steps

pub step_consistent : (s t : State) (b : Block) → AreInRange b → Consistent s → step s b ≡ Ok t → Consistent t
unfolding step
step_consistent s t b ranged consistent e = let h = step_ok s t b (due_of s b) e in subst Consistent h.2 (block_leads s b h.0 ranged consistent h.1).consistent

pub step_sound : (s t : State) (b : Block) → AreInRange b → Sound s → Apart t → step s b ≡ Ok t → Sound t
unfolding step
step_sound s t b ranged sound apart e =
    let h = step_ok s t b (due_of s b) e in
    subst Sound h.2 ((block_leads s b h.0 ranged (consistent_of s sound) h.1).sound sound (subst Apart (sym h.2) apart))

pub step_keeps : (s t : State) (b : Block) → AreInRange b → Sound s → step s b ≡ Ok t → money t.header.level (bare t.rows) ≡ money s.header.level (bare s.rows)
unfolding step
step_keeps s t b ranged sound e =
    let h = step_ok s t b (due_of s b) e in
    ap (λ (u : State). money u.header.level (bare u.rows)) (sym h.2) ∙ ap (money b.header.level) (bare_stamped b.header.round s.rows h.0) ∙ (block_leads s b h.0 ranged (consistent_of s sound) h.1).same sound

pub step_refused : (s : State) (b : Block) (r : Refusal) → AreInRange b → Consistent s → step s b ≡ Err r → MayCome s r
unfolding step
step_refused s b r ranged consistent e = block_refused s b r ranged consistent (step_err s b (due_of s b) r e)

pub step_is_sound : StepIsSound
step_is_sound = record {
  consistent = step_consistent;
  within = λ s b place rule. step_refused s b (broken place rule);
  sound = step_sound;
  keeps = step_keeps;
  pays = λ s b has owed ranged sound e. step_refused s b (pool_short has owed) ranged (consistent_of s sound) e sound;
}
