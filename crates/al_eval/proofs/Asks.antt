-- What a block asks of the rows before it, at one of its transactions.
use Rattle.std.proofs.Common.{◌≡◌, ◌∙◌, refl, sym, ap, subst, ℕ, ◌+◌, ◌<◌, ◌^◌, arith, Bool, true, false, if◌then◌else◌, nat_eq, eqb-true, List, [], ◌∷◌, ◌++◌, drop, length, sum_by, slice_index_or, Ok, Err}
use Rattle.std.proofs.lemmas.List.Sums.{sum_by-cons}
use Rattle.al_overlay.specs.Rules.{then_do}
use Rattle.al_txn.specs.declared.chain.Chain.{Chain}
use Rattle.al_tail.specs.declared.tail.Entry.{Entry}
use Rattle.al_eval.specs.Groups.{opened, size_of}
use Rattle.al_eval.specs.Items.{all_items, at_place, transacted}
use Rattle.al_tail.specs.Past.{entry_of}
use Rattle.al_eval.specs.Refusals.{IsDue, Refusal, Verdict, failed, no_memory, refused}
use Rattle.al_rows.specs.Rows.{RowMap}
use Rattle.al_bodies.specs.declared.body.AppCall.{AppCall}
use Rattle.al_bodies.specs.declared.body.Body.TheVariants as body
use Rattle.al_bodies.specs.declared.effect.Effect.{Effect}
use Rattle.al_txn.specs.declared.txn.Item.{Item}
use Rattle.al_overlay.specs.Work.{HasOneCreator}
use Rattle.al_resources.specs.Effects.{EffectsAskOne, called}
use Rattle.al_eval.specs.Body.{AsksOne, BodyAsksOne, Context}
use Rattle.al_eval.specs.Answers.{AskOne}

pub ask_at : (m n : RowMap) (items : List Item) (place : ℕ) (i : Item) → n ≡ m → AskOne m items → place < length items → slice_index_or items place i ≡ i → AsksOne n i
ask_at m n items place i same asks within is = subst (λ k. AsksOne k i) (sym same) (subst (λ (j : Item). AsksOne m j) is (asks place i within))

-- what a call of an application asks of the one that it names or creates
pub call_asks : (m : RowMap) (effects : List Effect) (a : AppCall) (next : ℕ) → BodyAsksOne m effects (body.App a) → EffectsAskOne m (called a next) effects
call_asks m effects a next asks = (by_test (nat_eq a.app 0) refl, asks.2)
  where
    by_test : (b : Bool) → nat_eq a.app 0 ≡ b → HasOneCreator m (if b then next else a.app)
    by_test true e = asks.0 (eqb-true a.app 0 e) next
    by_test false e = asks.1

-- the count of all transactions has room for the one at this place and those behind it
pub counted_on : (items : List Item) (place counter : ℕ) (i : Item) (rest : List Item) → drop place items ≡ i ∷ rest → counter + sum_by size_of (drop place items) < 2 ^ 64 → counter + size_of i + sum_by size_of rest < 2 ^ 64
counted_on items place counter i rest left fits =
    let all : sum_by size_of (drop place items) ≡ size_of i + sum_by size_of rest = ap (sum_by size_of) left ∙ sum_by-cons size_of i rest in
    omega arith

-- the transaction at the front of those that are left, and how it comes out
module _ (c : Chain) (level round place : ℕ) (past : List Entry) (counter left : ℕ) (i : Item) (rest : List Item) (m : RowMap) (x : Context) (x_is : x ≡ record { level = level; round = round; next = counter + 1; item = i }) (now : ℕ) (opens : opened c place left (i ∷ rest) ≡ Ok now) where
  at_front : all_items c level round place past counter left (i ∷ rest) m
      ≡ then_do (at_place place (transacted c past x m)) (λ n. all_items c level round (place + 1) (past ++ entry_of i.txn ∷ []) (counter + size_of i) now rest n)
  at_front =
      ap (λ o. then_do o (λ l. then_do (at_place place (transacted c past (record { level = level; round = round; next = counter + 1; item = i }) m)) (λ n. all_items c level round (place + 1) (past ++ entry_of i.txn ∷ []) (counter + size_of i) l rest n))) opens
      ∙ ap (λ (y : Context). then_do (at_place place (transacted c past y m)) (λ n. all_items c level round (place + 1) (past ++ entry_of i.txn ∷ []) (counter + size_of i) now rest n)) (sym x_is)

  -- it is done
  pub item_done : (n : RowMap) → at_place place (transacted c past x m) ≡ Ok n → all_items c level round place past counter left (i ∷ rest) m ≡ all_items c level round (place + 1) (past ++ entry_of i.txn ∷ []) (counter + size_of i) now rest n
  item_done n e = at_front ∙ ap (λ d. then_do d (λ k. all_items c level round (place + 1) (past ++ entry_of i.txn ∷ []) (counter + size_of i) now rest k)) e

  -- it is refused
  item_refused : (r : Refusal) → at_place place (transacted c past x m) ≡ Err r → all_items c level round place past counter left (i ∷ rest) m ≡ Err r
  item_refused r e = at_front ∙ ap (λ d. then_do d (λ k. all_items c level round (place + 1) (past ++ entry_of i.txn ∷ []) (counter + size_of i) now rest k)) e

  pub item_due : (v : Verdict) → IsDue (at_place place (transacted c past x m)) v → IsDue (all_items c level round place past counter left (i ∷ rest) m) v
  item_due (refused r) e = item_refused r e
  item_due failed e = tt
  item_due no_memory e = tt
