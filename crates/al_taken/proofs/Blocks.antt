-- The transactions of a generated block pass one after another, where no id repeats.
use Rattle.std.proofs.Common.{◌≡◌, ◌∙◌, ◌≤◌, ◌+◌, ℕ, sym, ap, subst, arith, List, [], ◌∷◌, ◌++◌, length, Option, false, Result, Ok, Err}
use Rattle.al_base.specs.declared.account.Special.{Special}
use Rattle.al_generator.specs.Items.{item_of, items_of}
use Rattle.al_generator.specs.declared.turns.Made.{Made}
use Rattle.al_rows.specs.Rows.{RowMap}
use Rattle.al_txn.specs.Ids.{txid_of}
use Rattle.al_txn.specs.declared.chain.Chain.{Chain}
use Rattle.al_txn.specs.declared.txn.Item.{Item}
use Rattle.al_overlay.specs.declared.rule.Rule.{Rule}
use Rattle.al_overlay.specs.Rules.{then_do}
use Rattle.al_moves.specs.Resources.{app_account}
use Rattle.al_tail.specs.declared.tail.Entry.{Entry}
use Rattle.al_tail.specs.Past.{entry_of, has_id}
use Rattle.al_eval.specs.Body.{Context}
use Rattle.al_eval.specs.Groups.{size_of, unless_broken}
use Rattle.al_eval.specs.Items.{Ran, all_items, at_place, transacted}
use Rattle.al_eval.specs.Refusals.{Refusal, broken, expired, header, pool_short}
use Rattle.al_taken.proofs.Standings.{Passes, is_special}
use Rattle.al_taken.proofs.AllHere.{Known}
use Rattle.al_taken.proofs.Bodies.{Fits}
use Rattle.al_taken.proofs.Events.{Runs, next_known}
use Rattle.al_taken.proofs.Items.{IsOurs, next_count, transacted_passes}
use Rattle.al_taken.proofs.Forms.{enters, size_is}

-- no transaction has the id of one before it that may stand in the round
abbrev pub AreNew : ℕ → List Entry → List Item → Type 0
AreNew round past [] = Unit {0}
AreNew round past (i ∷ is) = (has_id round (txid_of i.txn) past ≡ false) × AreNew round (past ++ entry_of i.txn ∷ []) is

-- what holds of what they leave; they are refused by the most of a balance alone
abbrev pub PassAll : (Ran → Type 0) → Result Ran Refusal → Type 0
PassAll P (Ok r) = P r
PassAll P (Err (broken place rule)) = rule.number ≡ 41
PassAll P (Err (header f)) = ⊥
PassAll P (Err (pool_short has owed)) = ⊥
PassAll P (Err (expired place)) = ⊥

placed : (P : Ran → Type 0) (Q : RowMap → Type 0) (place : ℕ) (due : Result RowMap Rule) (f : RowMap → Result Ran Refusal) → Passes Q due → ((n : RowMap) → Q n → PassAll P (f n)) → PassAll P (then_do (at_place place due) f)
placed P Q place (Ok n) f h g = g n h
placed P Q place (Err r) f h g = h

-- what is left of the rows, and of the count
pub record Leaves (s : Special) (l : Known) (r : Ran) : Type 0 where
  pub fits : Fits s l r.rows
  pub counter : r.counter ≡ l.count

pub runs_count : (k l : Known) (ms : List Made) → Runs k ms l → l.count ≡ k.count + length ms
runs_count k l [] h = omega (arith, ap (λ (x : Known). x.count) h)
runs_count k l (m ∷ ms) h = omega (arith, runs_count (next_known k m.action) l ms h.1, next_count k m.action)

module _ (c : Chain) (ours : IsOurs c) (level round : ℕ) where
  pub all_pass : (place : ℕ) (past : List Entry) (k l : Known) (ms : List Made) (m : RowMap) → Runs k ms l → l.count ≤ 800000 → ((app : ℕ) → app ≤ l.count → is_special c.special (app_account app) ≡ false) → AreNew round past (items_of round c.hash ms) → Fits c.special k m
      → PassAll (Leaves c.special l) (all_items c level round place past k.count 0 (items_of round c.hash ms) m)
  all_pass place past k l [] m runs few apart new fits = record { fits = subst (λ (x : Known). Fits c.special x m) runs fits; counter = ap (λ (x : Known). x.count) runs }
  all_pass place past k l (made ∷ ms) m runs few apart new fits =
      let i = item_of round c.hash made in
      let P = Leaves c.special l in
      let next = next_known k made.action in
      let x : Context = record { level = level; round = round; next = k.count + 1; item = i } in
      let rest : ℕ → ℕ → RowMap → Result Ran Refusal = λ left count n. all_items c level round (place + 1) (past ++ entry_of i.txn ∷ []) count left (items_of round c.hash ms) n in
      let up : k.count + 1 ≤ l.count = omega (arith, runs_count next l ms runs.1, next_count k made.action) in
      subst (λ (o : Option (ℕ × Rule)). PassAll P (then_do (unless_broken o 0) (λ left. then_do (at_place place (transacted c past x m)) (rest left (k.count + size_of i))))) (sym (enters c ours k round made runs.0 place (items_of round c.hash ms)))
      (placed P (Fits c.special next) place (transacted c past x m) (rest 0 (k.count + size_of i))
      (transacted_passes c ours k (omega (arith, up, few)) level round made runs.0 (λ app l. apart app (omega (arith, l, up))) past m new.0 fits)
      (λ n g. subst (λ (count : ℕ). PassAll P (rest 0 count n)) (next_count k made.action ∙ ap (λ (y : ℕ). k.count + y) (sym (size_is c ours k round made runs.0)))
      (all_pass (place + 1) (past ++ entry_of i.txn ∷ []) next l ms n runs.1 few apart new.1 g)))
