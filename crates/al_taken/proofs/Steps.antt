-- The block that is due passes over a sound state whose rows are as they should be, where no id repeats.
use Rattle.std.proofs.Common.{◌≡◌, ◌∙◌, ◌≤◌, ◌+◌, ◌-◌, ℕ, refl, sym, ap, subst, arith, List, [], ◌∷◌, map, Option, Some, None, Bool, true, false, true≢false, ◌||◌, if◌then◌else◌, nat_eq, nat_lt, Result, Ok, Err}
use Rattle.std.proofs.lemmas.List.{length-map}
use Rattle.std.specs.Cmp.{nat_eq_equiv}
use Rattle.std.specs.Cmp.Lexicographic.{nat_list_eq_equiv}
use Rattle.std.specs.List.{AllByRecursion}
use Rattle.al_base.specs.declared.account.Special.{Special}
use Rattle.al_block.specs.declared.block.Block.{Block}
use Rattle.al_block.specs.declared.header.Field.{Field}
use Rattle.al_block.specs.declared.header.Field.TheVariants as field
use Rattle.al_block.specs.Hashes.{payset_hash_of}
use Rattle.al_generator.specs.Items.{item_of, items_of}
use Rattle.al_generator.specs.declared.turns.Made.{Made}
use Rattle.al_rewards.specs.Next.{least_pool}
use Rattle.al_rewards.specs.Totals.{all_units}
use Rattle.al_rows.specs.declared.account.AccountRow.{AccountRow}
use Rattle.al_rows.specs.Rows.{RowMap, account, bare, set_account}
use Rattle.al_txn.specs.declared.txn.Item.{Item}
use Rattle.al_overlay.specs.Rules.{then_do}
use Rattle.al_overlay.specs.Accounts.{same_address}
use Rattle.al_moves.specs.Resources.{app_account}
use Rattle.al_moves.proofs.Monies.{same_itself}
use Rattle.al_tail.specs.Past.{entry_of}
use Rattle.al_eval.specs.Expiry.{all_expired}
use Rattle.al_eval.specs.Header.{counter_fault, first_fault, header_checks, payset_fault, rewards_checks, unless_fault}
use Rattle.al_eval.specs.Items.{Ran, all_items}
use Rattle.al_eval.specs.Pool.{owed_by, pool_paid, rewards_due}
use Rattle.al_eval.specs.Refusals.{Refusal, broken, expired, header, pool_short}
use Rattle.al_eval.specs.State.{State, before_of, counts_in}
use Rattle.al_eval.specs.Steps.{block_rows}
use Rattle.al_eval.proofs.Sounds.{due_of}
use Rattle.al_states.specs.Due.{due_block}
use Rattle.al_taken.proofs.Standings.{Good, is_special, is_user, set_stands}
use Rattle.al_taken.proofs.AllHere.{Known, boxes_most, all_here_calm}
use Rattle.al_taken.proofs.Bodies.{Fits, few_at, most}
use Rattle.al_taken.proofs.Events.{Runs}
use Rattle.al_taken.proofs.Items.{IsOurs}
use Rattle.al_taken.proofs.Blocks.{AreNew, Leaves, PassAll, all_pass, runs_count}

-- what holds of the rows that a block leaves; it is refused by the most of a balance, or by what the pool has, alone
abbrev pub PassBlock : (RowMap → Type 0) → Result RowMap Refusal → Type 0
PassBlock P (Ok n) = P n
PassBlock P (Err (broken place rule)) = rule.number ≡ 41
PassBlock P (Err (header f)) = ⊥
PassBlock P (Err (pool_short has owed)) = Unit {0}
PassBlock P (Err (expired place)) = ⊥

then_none : (P : RowMap → Type 0) (o : Option Field) (m : RowMap) (f : RowMap → Result RowMap Refusal) → o ≡ None → PassBlock P (f m) → PassBlock P (then_do (unless_fault o m) f)
then_none P None m f e h = h
then_none P (Some x) m f e h = absurd (let z : ◌≡◌ {A = Option Field} (Some x) None = e in cc)

then_enough : (P : RowMap → Type 0) (b : Bool) (has owed : ℕ) (k : RowMap) (f : RowMap → Result RowMap Refusal) → PassBlock P (f k) → PassBlock P (then_do (if b then Err (pool_short has owed) else Ok k) f)
then_enough P true has owed k f h = tt
then_enough P false has owed k f h = h

then_all : (P : RowMap → Type 0) (Q : Ran → Type 0) (due : Result Ran Refusal) (f : Ran → Result RowMap Refusal) → PassAll Q due → ((r : Ran) → Q r → PassBlock P (f r)) → PassBlock P (then_do due f)
then_all P Q (Ok r) f h g = g r h
then_all P Q (Err (broken place rule)) f h g = h
then_all P Q (Err (header x)) f h g = absurd h
then_all P Q (Err (pool_short has owed)) f h g = absurd h
then_all P Q (Err (expired place)) f h g = absurd h

last_none : (P : RowMap → Type 0) (o : Option Field) (n : RowMap) → o ≡ None → P n → PassBlock P (unless_fault o n)
last_none P None n e h = h
last_none P (Some x) n e h = absurd (let z : ◌≡◌ {A = Option Field} (Some x) None = e in cc)

none_at_fault : (cs : List (Bool × Field)) → AllByRecursion (λ c. c.0 ≡ true) cs → first_fault cs ≡ None
none_at_fault [] h = refl
none_at_fault (c ∷ cs) h = ap (λ (b : Bool). if b then first_fault cs else Some c.1) h.0 ∙ none_at_fault cs h.1

or_first : (a b : Bool) → a ≡ true → (a || b) ≡ true
or_first true b e = refl
or_first false b e = absurd (true≢false (sym e))

or_second : (a b : Bool) → b ≡ true → (a || b) ≡ true
or_second true b e = refl
or_second false b e = e

pool_special : (s : Special) → is_special s s.pool ≡ true
pool_special s = or_second (same_address s.pool s.sink) (same_address s.pool s.pool) (same_itself s.pool)

-- the pool's own row may be any
fits_pool : (s : Special) (k : Known) (m : RowMap) (r : AccountRow) → k.count ≤ 800000 → is_user s.pool ≡ false → Fits s k m → Fits s k (set_account m s.pool r)
fits_pool s k m r few off h = record {
  boxes = h.boxes;
  stands = set_stands s k.app (most k h.boxes) m s.pool r (few_at k (most k h.boxes) few (omega arith) (omega arith) (boxes_most k h.boxes m h.all_here))
      (subst (λ (t : Bool). Good t (is_special s s.pool) (most k h.boxes) r) (sym off) (subst (λ (t : Bool). Good false t (most k h.boxes) r) (sym (pool_special s)) tt)) h.stands;
  all_here = all_here_calm k h.boxes m s.pool r h.all_here;
}

module _ (s : State) (k l : Known) (ms : List Made) (ours : IsOurs s.chain) (first : s.header.ts ≡ 0) (counted : s.header.counter ≡ k.count) (runs : Runs k ms l) (few : l.count ≤ 800000) where
  abbrev round : ℕ
  round = s.header.round + 1

  abbrev items : List Item
  items = items_of round s.chain.hash ms

  abbrev b : Block
  b = due_block s 0 items

  checks_pass : AllByRecursion (λ c. c.0 ≡ true) (header_checks (before_of s) b.header)
  unfolding header_checks
  checks_pass = (
    nat_eq_equiv.refl round,
    (
      nat_list_eq_equiv.refl b.header.prev,
      (
        nat_list_eq_equiv.refl s.chain.hash,
        (
          or_first (nat_eq s.header.ts 0) _ (ap (λ n. nat_eq n 0) first),
          (
            same_itself s.chain.special.sink,
            (same_itself s.chain.special.pool, tt),
          ),
        ),
      ),
    ),
  )

  rewards_pass : AllByRecursion (λ c. c.0 ≡ true) (rewards_checks (rewards_due (before_of s) b.header.round (all_units (counts_in s)) (bare s.rows)) b.header)
  unfolding rewards_checks
  rewards_pass = (nat_eq_equiv.refl b.header.rate, (nat_eq_equiv.refl b.header.recalc, (nat_eq_equiv.refl b.header.residue, (nat_eq_equiv.refl b.header.level, tt))))

  counter_is : (r : Ran) → r.counter ≡ l.count → counter_fault b.header r.counter ≡ None
  counter_is r e =
      let same : b.header.counter ≡ r.counter = omega (arith, runs_count k l ms runs, length-map ms (item_of round s.chain.hash)) in
      ap (λ (t : Bool). if t then None else Some field.Tc) (subst (λ n. nat_eq b.header.counter n ≡ true) same (nat_eq_equiv.refl b.header.counter))

  pub block_passes : ((app : ℕ) → app ≤ l.count → is_special s.chain.special (app_account app) ≡ false) → AreNew round (map entry_of s.past) items → Fits s.chain.special k (bare s.rows) → PassBlock (Fits s.chain.special l) (due_of s b)
  unfolding block_rows pool_paid
  block_passes apart new fits =
      let P = Fits s.chain.special l in
      let c = s.chain in
      let units = all_units (counts_in s) in
      let purse = account (bare s.rows) c.special.pool in
      let paid = set_account (bare s.rows) c.special.pool (record purse { balance = purse.balance - owed_by (before_of s) units b.header }) in
      let up : k.count ≤ 800000 = omega (arith, runs_count k l ms runs, few) in
      then_none P (first_fault (header_checks (before_of s) b.header)) (bare s.rows) _ (none_at_fault (header_checks (before_of s) b.header) checks_pass)
      (then_none P (first_fault (rewards_checks (rewards_due (before_of s) b.header.round units (bare s.rows)) b.header)) (bare s.rows) _ (none_at_fault _ rewards_pass)
      (then_enough P (nat_lt purse.balance (owed_by (before_of s) units b.header + least_pool)) purse.balance (owed_by (before_of s) units b.header) paid _
      (then_none P (payset_fault b) paid _ (ap (λ (t : Bool). if t then None else Some field.Txn) (nat_list_eq_equiv.refl (payset_hash_of items)))
      (then_all P (Leaves c.special l) (all_items c b.header.level round 0 (map entry_of s.past) s.header.counter 0 items paid) (λ n. then_do (all_expired b.header.round 0 b.header.expired n.rows) (λ k. unless_fault (counter_fault b.header n.counter) k))
      (subst (λ (n : ℕ). PassAll (Leaves c.special l) (all_items c b.header.level round 0 (map entry_of s.past) n 0 items paid)) (sym counted)
      (all_pass c ours b.header.level round 0 (map entry_of s.past) k l ms paid runs few apart new (fits_pool c.special k (bare s.rows) _ up ours.pool fits)))
      (λ r h. last_none P (counter_fault b.header r.counter) r.rows (counter_is r h.counter) h.fits)))))
