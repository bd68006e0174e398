-- The transactions of a block keep what a block has to keep.
use Rattle.std.proofs.Common.{◌≡◌, refl, sym, ap, arith, false, ℕ, ◌+◌, ◌≤◌, List, [], ◌∷◌, ◌++◌, Result, Ok, Err, Option, Some, None, take}
use Rattle.std.specs.List.{AllByRecursion}
use Rattle.al_base.specs.declared.account.Special.{Special}
use Rattle.al_rows.specs.Rows.{RowMap, account}
use Rattle.al_txn.specs.declared.chain.Chain.{Chain}
use Rattle.al_txn.specs.declared.txn.Item.{Item}
use Rattle.al_overlay.specs.declared.rule.Rule.{Rule}
use Rattle.al_overlay.specs.Rules.{then_do, unless_refused}
use Rattle.al_overlay.specs.Accounts.{earned, moved, same_address}
use Rattle.al_moves.specs.Pay.{rekeyed}
use Rattle.al_moves.specs.Minimum.{checked}
use Rattle.al_moves.proofs.Keyed.{keys_are_fair}
use Rattle.al_moves.proofs.Monies.{moves_are_fair}
use Rattle.al_tail.specs.declared.tail.Entry.{Entry}
use Rattle.al_tail.specs.Past.{entry_of}
use Rattle.al_resources.specs.Kept.{AreAppsApart, Ends, IsGood, Kept}
use Rattle.al_resources.specs.Sound.{IsOtherRule}
use Rattle.al_resources.proofs.Payments.{calm_ends}
use Rattle.al_resources.proofs.Steadies.{Calm, moved_holds, rekeyed_holds, checked_holds, calm_steps}
use Rattle.al_resources.proofs.Steps.{ends_then}
use Rattle.al_eval.specs.Refusals.{Refusal, broken, header, pool_short, expired}
use Rattle.al_eval.specs.Groups.{unless_broken, entered, left_after, size_of}
use Rattle.al_eval.specs.Items.{item_fault, applied, transacted, at_place, all_items, Ran}
use Rattle.al_eval.specs.Body.{Context, IsItemInRange, done_by}
use Rattle.al_eval.proofs.Wells.{IsWatched, IsWell, AllWell, watched_has, well_entered}
use Rattle.al_eval.proofs.Others.{IsOther, IsOtherAt, item_other, entered_other}
use Rattle.al_eval.proofs.Bodies.{body_good, ends_also}

-- ---- a transaction

module _ (c : Chain) (watched : Option Special) (is : IsWatched c watched) (x : Context) (start : RowMap) (counter : ℕ) (next : x.next ≡ counter + 1) (well : IsWell c x.item.txn.sender x.item.effects x.item.txn.body) (ranged : IsItemInRange x.item) (apart : AreAppsApart watched (counter + size_of x.item)) where
  applied_good : IsGood x.level watched start counter (size_of x.item) (applied c x)
  unfolding applied
  applied_good m k =
      let t = x.item.txn in
      let step = calm_steps x.level watched t.sender (watched_has (λ s. same_address t.sender s.pool ≡ false) c watched is well.pool) in
      let P = Kept x.level watched start counter in
      let Q = Kept x.level watched start (counter + size_of x.item) in
      let none : RowMap → Type 0 = λ n. earned x.level (account n t.sender) ≡ 0 in
      let R : RowMap → Type 0 = λ n. P n × none n in
      ends_then R Q (moved x.level t.sender c.special.sink t.fee m) _
      (ends_also P none (moved x.level t.sender c.special.sink t.fee m)
      (calm_ends x.level watched start counter m (moved x.level t.sender c.special.sink t.fee m) (moves_are_fair.moved x.level t.sender c.special.sink t.fee m) (moved_holds (Calm x.level watched) x.level t.sender step c.special.sink t.fee m) k)
      (λ n e. keys_are_fair.after_move x.level t.sender c.special.sink t.fee m n e))
      (λ a ka. ends_then R Q (rekeyed t.sender t.rekey a) _
      (ends_also P none (rekeyed t.sender t.rekey a)
      (calm_ends x.level watched start counter a (rekeyed t.sender t.rekey a) (moves_are_fair.rekeyed x.level t.sender t.rekey a) (rekeyed_holds (Calm x.level watched) x.level t.sender step t.rekey a) ka.0)
      (λ n e. keys_are_fair.after_rekey x.level t.sender t.rekey a n ka.1 e))
      (λ b kb. ends_then Q Q (done_by t.body x b) (λ d. checked x.level c.special m d)
      (body_good c watched is x start counter next ranged.1 apart t.body well ranged.0 b kb.1 kb.0)
      (λ d kd. calm_ends x.level watched start (counter + size_of x.item) d (checked x.level c.special m d) (moves_are_fair.checked x.level c.special m d) (checked_holds (Calm x.level watched) x.level t.sender step c.special m d) kd)))

  transacted_good : (past : List Entry) → IsGood x.level watched start counter (size_of x.item) (transacted c past x)
  unfolding transacted
  transacted_good past m k = by_fault (item_fault x.round past x.item) (item_other x.round past x.item)
    where
      by_fault : (o : Option Rule) → IsOther o → Ends (Kept x.level watched start (counter + size_of x.item)) (then_do (unless_refused o m) (λ n. applied c x n))
      by_fault None h = applied_good m k
      by_fault (Some r) h = h

-- ---- the count of transactions

-- the count after transactions
abbrev pub last_count : ℕ → List Item → ℕ
last_count counter [] = counter
last_count counter (i ∷ is) = last_count (counter + size_of i) is

counts_up : (counter : ℕ) (is : List Item) → counter ≤ last_count counter is
counts_up counter [] = omega arith
counts_up counter (i ∷ is) = omega (arith, counts_up (counter + size_of i) is)

ran_is : (a b : Ran) → ◌≡◌ {A = Result Ran Refusal} (Ok a) (Ok b) → a ≡ b
ran_is a b e = cc

opened_ran : (o : Option (ℕ × Rule)) (left : ℕ) (f : ℕ → Result Ran Refusal) (r : Ran) → then_do (unless_broken o left) f ≡ Ok r → f left ≡ Ok r
opened_ran None left f r e = e
opened_ran (Some g) left f r e = absurd (let x : ◌≡◌ {A = Result Ran Refusal} (Err (broken g.0 g.1)) (Ok r) = e in cc)

placed_ran : (place : ℕ) (due : Result RowMap Rule) (f : RowMap → Result Ran Refusal) (r : Ran) → then_do (at_place place due) f ≡ Ok r → (n : RowMap) × (f n ≡ Ok r)
placed_ran place (Ok n) f r e = (n, e)
placed_ran place (Err q) f r e = absurd (let x : ◌≡◌ {A = Result Ran Refusal} (Err (broken place q)) (Ok r) = e in cc)

-- it is the one that they come to
pub count_is : (c : Chain) (level round place : ℕ) (past : List Entry) (counter left : ℕ) (is : List Item) (m : RowMap) (r : Ran) → all_items c level round place past counter left is m ≡ Ok r → r.counter ≡ last_count counter is
count_is c level round place past counter left [] m r e = sym (ap (λ (a : Ran). a.counter) (ran_is (record { rows = m; counter = counter }) r e))
count_is c level round place past counter left (i ∷ is) m r e =
    let x : Context = record { level = level; round = round; next = counter + 1; item = i } in
    let rest : ℕ → RowMap → Result Ran Refusal = λ left n. all_items c level round (place + 1) (past ++ entry_of i.txn ∷ []) (counter + size_of i) left is n in
    let o = opened_ran (entered c place left (i ∷ is)) (left_after left (i ∷ is)) (λ left. then_do (at_place place (transacted c past x m)) (rest left)) r e in
    let n = placed_ran place (transacted c past x m) (rest (left_after left (i ∷ is))) r o in
    count_is c level round (place + 1) (past ++ entry_of i.txn ∷ []) (counter + size_of i) (left_after left (i ∷ is)) is n.0 r n.1

-- ---- the transactions of a block

-- a refusal of a transaction, by a rule other than 41 and 53
abbrev pub IsOtherRefusal : Refusal → Type 0
IsOtherRefusal (broken place rule) = IsOtherRule rule
IsOtherRefusal (header f) = ⊥
IsOtherRefusal (pool_short pool owed) = ⊥
IsOtherRefusal (expired place) = ⊥

-- what holds of what they leave, and of the refusal
abbrev pub EndsAll : (ℕ → RowMap → Type 0) → Result Ran Refusal → Type 0
EndsAll P (Ok r) = P r.counter r.rows
EndsAll P (Err e) = IsOtherRefusal e

opened_then : (P : ℕ → RowMap → Type 0) (o : Option (ℕ × Rule)) (left : ℕ) (f : ℕ → Result Ran Refusal) → IsOtherAt o → (o ≡ None → EndsAll P (f left)) → EndsAll P (then_do (unless_broken o left) f)
opened_then P None left f h g = g refl
opened_then P (Some e) left f h g = h

placed_then : (P : ℕ → RowMap → Type 0) (Q : RowMap → Type 0) (place : ℕ) (due : Result RowMap Rule) (f : RowMap → Result Ran Refusal) → Ends Q due → ((n : RowMap) → Q n → EndsAll P (f n)) → EndsAll P (then_do (at_place place due) f)
placed_then P Q place (Ok n) f h g = g n h
placed_then P Q place (Err r) f h g = h

-- where sink and pool are watched, no application up to the last count has one of them as its account
pub items_good : (c : Chain) (watched : Option Special) → IsWatched c watched → (level round : ℕ) (start : RowMap) (place : ℕ) (past : List Entry) (counter left : ℕ) (is : List Item) (m : RowMap) → AllWell c (take left is) → AllByRecursion IsItemInRange is → AreAppsApart watched (last_count counter is)
    → Kept level watched start counter m → EndsAll (Kept level watched start) (all_items c level round place past counter left is m)
items_good c watched told level round start place past counter left [] m well ranged apart k = k
items_good c watched told level round start place past counter left (i ∷ is) m well ranged apart k =
    let P = Kept level watched start in
    let x : Context = record { level = level; round = round; next = counter + 1; item = i } in
    let rest : ℕ → RowMap → Result Ran Refusal = λ left n. all_items c level round (place + 1) (past ++ entry_of i.txn ∷ []) (counter + size_of i) left is n in
    let up : counter + size_of i ≤ last_count (counter + size_of i) is = counts_up (counter + size_of i) is in
    let here : AreAppsApart watched (counter + size_of i) = λ app l. apart app (omega (arith, l, up)) in
    opened_then P (entered c place left (i ∷ is)) (left_after left (i ∷ is)) (λ left. then_do (at_place place (transacted c past x m)) (rest left)) (entered_other c place left (i ∷ is))
    (λ e. let w = well_entered c place left i is well e in
    placed_then P (P (counter + size_of i)) place (transacted c past x m) (rest (left_after left (i ∷ is))) (transacted_good c watched told x start counter refl w.0 ranged.0 here past m k)
    (λ n kn. items_good c watched told level round start (place + 1) (past ++ entry_of i.txn ∷ []) (counter + size_of i) (left_after left (i ∷ is)) is n w.1 ranged.1 apart kn))
