-- Each block of a generated chain is taken, or a clash is shown.
use Rattle.std.proofs.Common.{◌≡◌, ◌∙◌, ◌≤◌, ◌<◌, ◌+◌, ℕ, zero, suc, refl, sym, ap, ap₂, subst, arith, List, [], ◌∷◌, ◌++◌, length, map, Bool, true, false, true≢false, ◌||◌, ◌⊎◌, inl, inr, Result, Ok, Err, lit<, lit≤}
use Rattle.std.proofs.lemmas.List.{length-map}
use Rattle.std.proofs.lemmas.List.Elements.{All-from_recursion}
use Rattle.std.specs.Cmp.Lexicographic.{same_text}
use Rattle.std.specs.List.{AllByRecursion}
use Rattle.al_base.specs.declared.address.Address.{Address}
use Rattle.al_block.specs.declared.block.Block.{Block}
use Rattle.al_bodies.specs.Ranges.{EffectInRange}
use Rattle.al_eval.specs.Body.{IsItemInRange}
use Rattle.al_eval.specs.Refusals.{Refusal, broken, expired, header, pool_short}
use Rattle.al_eval.specs.Sound.{Apart, AreInRange, Sound}
use Rattle.al_eval.specs.State.{State, after, replay, step}
use Rattle.al_eval.proofs.Chains.{bare_stamped}
use Rattle.al_eval.proofs.Firsts.{start_is_sound}
use Rattle.al_eval.proofs.Sounds.{consistent_of, due_of, step_is_sound}
use Rattle.al_generator.specs.Genesis.{generated_bytes, generated_genesis, pool, sink}
use Rattle.al_generator.specs.Items.{effects_of, item_of, items_of}
use Rattle.al_generator.specs.declared.turns.Action.{Action}
use Rattle.al_generator.specs.declared.turns.Action.TheVariants as acts
use Rattle.al_generator.specs.declared.turns.Made.{Made}
use Rattle.al_generator.proofs.Good.{is_genesis}
use Rattle.al_moves.specs.Resources.{app_account}
use Rattle.al_overlay.specs.Accounts.{same_address}
use Rattle.al_overlay.specs.Rules.{then_do}
use Rattle.al_rows.specs.Rows.{RowMap, bare}
use Rattle.al_tail.specs.Past.{entry_of}
use Rattle.al_txn.specs.declared.chain.Chain.{Chain}
use Rattle.al_txn.specs.declared.txn.Item.{Item}
use Rattle.al_txn.specs.declared.txn.Txn.{Txn}
use Rattle.al_generated.proofs.ChainLemmas.{LastStep, last_step, none_yet}
use Rattle.al_generated.specs.Chain.{generated_blocks, items_behind, origin, progress_after}
use Rattle.al_states.specs.Due.{due_block}
use Rattle.al_taken.specs.Taken.{Clash, GeneratedIsTaken, HasOneId, IsSpecial}
use Rattle.al_taken.proofs.Standings.{is_special, is_user}
use Rattle.al_taken.proofs.AllHere.{Known}
use Rattle.al_taken.proofs.Bodies.{Fits}
use Rattle.al_taken.proofs.Items.{IsOurs}
use Rattle.al_taken.proofs.Blocks.{AreNew, runs_count}
use Rattle.al_taken.proofs.Steps.{PassBlock, block_passes}
use Rattle.al_taken.proofs.Repeats.{all_stood, block_runs, far, known_after, made_behind, new_or, past_txns}
use Rattle.al_taken.proofs.Begins.{begins, specials}

-- ---- special accounts

-- no application up to a number has a special account
abbrev IsApartTo : ℕ → Type 0
IsApartTo n = (app : ℕ) → app ≤ n → is_special specials (app_account app) ≡ false

-- one has
abbrev HasSpecial : ℕ → Type 0
HasSpecial n = (app : ℕ) × (app ≤ n) × (is_special specials (app_account app) ≡ true)

last_apart : (n : ℕ) → ((app : ℕ) → app < n → is_special specials (app_account app) ≡ false) → (t : Bool) → is_special specials (app_account n) ≡ t → IsApartTo n ⊎ HasSpecial n
last_apart n h true e = inr (n, omega arith, e)
last_apart n h false e = inl (λ app l. by_place app (split app n l))
  where
    split : (a b : ℕ) → a ≤ b → (a < b) ⊎ (a ≡ b)
    split a b l = grind arith

    by_place : (app : ℕ) → (app < n) ⊎ (app ≡ n) → is_special specials (app_account app) ≡ false
    by_place app (inl less) = h app less
    by_place app (inr same) = ap (λ x. is_special specials (app_account x)) same ∙ e

apart_or : (n : ℕ) → IsApartTo n ⊎ HasSpecial n
apart_or zero = last_apart zero (λ app l. absurd (omega arith)) (is_special specials (app_account zero)) refl
apart_or (suc n) = by_rest (apart_or n)
  where
    by_rest : IsApartTo n ⊎ HasSpecial n → IsApartTo (suc n) ⊎ HasSpecial (suc n)
    by_rest (inl h) = last_apart (suc n) (λ app l. h app (omega arith)) (is_special specials (app_account (suc n))) refl
    by_rest (inr x) = inr (x.0, omega (arith, x.1), x.2)

same_as : (a b : Address) → same_address a b ≡ true → a ≡ b
same_as a b e = let same : a ≡ b = ap (λ (x : List ℕ). record { 0 = x }) (same_text a.0 b.0 (sym e)) in same

either : (a b : Bool) → (a || b) ≡ true → (a ≡ true) ⊎ (b ≡ true)
either true b e = inl refl
either false b e = inr e

neither : (a b : Bool) → (a || b) ≡ false → (a ≡ false) × (b ≡ false)
neither true b e = absurd (true≢false e)
neither false b e = (refl, e)

special_shown : (number n app : ℕ) → app ≤ suc (progress_after number n).count → is_special specials (app_account app) ≡ true → IsSpecial number n
special_shown number n app l e = record { app = app; within = l; account = by_either (either (same_address (app_account app) sink) (same_address (app_account app) pool) e) }
  where
    by_either : (same_address (app_account app) sink ≡ true) ⊎ (same_address (app_account app) pool ≡ true) → (app_account app ≡ sink) ⊎ (app_account app ≡ pool)
    by_either (inl x) = inl (same_as (app_account app) sink x)
    by_either (inr x) = inr (same_as (app_account app) pool x)

-- a clash of fewer blocks is one of more
clash_more : (number n : ℕ) → Clash number n → Clash number (suc n)
clash_more number n (inl h) = inl (record {
  one = h.one;
  other = h.other;
  earlier = h.earlier;
  later = h.later;
  in_order = h.in_order;
  near = h.near;
  within = omega (arith, h.within);
  one_is = h.one_is;
  other_is = h.other_is;
  differ = h.differ;
  same = h.same;
})
clash_more number n (inr h) = inr (record { app = h.app; within = omega (arith, h.within, runs_count (known_after number n) (known_after number (suc n)) (made_behind number n) (block_runs number n)); account = h.account })

-- ---- ranges

item_ranged : (round : ℕ) (hash : List ℕ) (made : Made) → IsItemInRange (item_of round hash made)
item_ranged round hash made = by_action made.action
  where
    by_action : (a : Action) → IsItemInRange (item_of round hash (record { number = made.number; sender = made.sender; action = a }))
    by_action (acts.Pay receiver amount) = (tt, All-from_recursion EffectInRange [] tt)
    by_action acts.CreateAsset = ((lit< tt, lit< tt), All-from_recursion EffectInRange [] tt)
    by_action (acts.OptIn asset) = (tt, All-from_recursion EffectInRange [] tt)
    by_action acts.GoOnline = (tt, All-from_recursion EffectInRange [] tt)
    by_action acts.GoOffline = (tt, All-from_recursion EffectInRange [] tt)
    by_action acts.CreateApp = (tt, All-from_recursion EffectInRange (effects_of acts.CreateApp) ((lit≤ tt, lit≤ tt, lit≤ tt, lit≤ tt, lit≤ tt, lit≤ tt), tt))
    by_action (acts.PutBox app name) = (tt, All-from_recursion EffectInRange (effects_of (acts.PutBox app name)) (lit≤ tt, tt))

items_ranged : (round : ℕ) (hash : List ℕ) (ms : List Made) → AllByRecursion IsItemInRange (items_of round hash ms)
items_ranged round hash [] = tt
items_ranged round hash (made ∷ ms) = (item_ranged round hash made, items_ranged round hash ms)

-- ---- a block

-- what is so of the state behind the first n blocks
record Behind (number n : ℕ) (s : State) : Type 0 where
  sound : Sound s
  chain : s.chain ≡ generated_genesis.chain
  round : s.header.round ≡ n
  counter : s.header.counter ≡ (progress_after number n).count
  first : s.header.ts ≡ 0
  past : s.past ≡ past_txns number n
  fits : Fits specials (known_after number n) (bare s.rows)

no_users : IsOurs generated_genesis.chain
unfolding is_user
no_users = record { sink = refl; pool = refl }

module _ (number n : ℕ) (s : State) (soon : n < 100000) (behind : Behind number n s) (apart : IsApartTo (suc (progress_after number (suc n)).count)) (new : AreNew (suc n) (map entry_of (past_txns number n)) (items_behind number n)) where
  abbrev b : Block
  b = due_block s 0 (items_behind number n)

  abbrev ms : List Made
  ms = made_behind number n

  abbrev k : Known
  k = known_after number n

  abbrev l : Known
  l = known_after number (suc n)

  same_round : suc n ≡ s.header.round + 1
  same_round = omega (arith, behind.round)

  same_hash : generated_genesis.chain.hash ≡ s.chain.hash
  same_hash = sym (ap (λ (c : Chain). c.hash) behind.chain)

  same_items : items_of (s.header.round + 1) s.chain.hash ms ≡ items_behind number n
  same_items = sym (ap₂ (λ (r : ℕ) (h : List ℕ). items_of r h ms) same_round same_hash)

  passes : PassBlock (Fits specials l) (due_of s b)
  passes =
      subst (λ (is : List Item). PassBlock (Fits specials l) (due_of s (due_block s 0 is))) same_items
      (subst (λ (c : Chain). PassBlock (Fits c.special l) (due_of s (due_block s 0 (items_of (s.header.round + 1) s.chain.hash ms)))) behind.chain
      (block_passes s k l ms (subst IsOurs (sym behind.chain) no_users) behind.first behind.counter (block_runs number n) (omega (arith, (far number (suc n)).few, soon))
      (λ app few. subst (λ (c : Chain). is_special c.special (app_account app) ≡ false) (sym behind.chain) (apart app (omega arith)))
      (subst (λ (p : List Txn). AreNew (s.header.round + 1) (map entry_of p) (items_of (s.header.round + 1) s.chain.hash ms)) (sym behind.past)
      (subst (λ (is : List Item). AreNew (s.header.round + 1) (map entry_of (past_txns number n)) is) (sym same_items)
      (subst (λ (r : ℕ). AreNew r (map entry_of (past_txns number n)) (items_behind number n)) same_round new)))
      (subst (λ (c : Chain). Fits c.special k (bare s.rows)) (sym behind.chain) behind.fits)))

  ranged : AreInRange b
  ranged = All-from_recursion IsItemInRange b.items (items_ranged (suc n) generated_genesis.chain.hash ms)

  by_due : (d : Result RowMap Refusal) → due_of s b ≡ d → PassBlock (Fits specials l) d → step s b ≡ then_do d (λ m. Ok (after s b m)) → (t : State) × (step s b ≡ Ok t) × Behind number (suc n) t
  by_due (Ok m) e h is = (
    after s b m,
    is,
    record {
      sound = step_is_sound.sound s (after s b m) b ranged behind.sound is_apart is;
      chain = behind.chain;
      round = omega (arith, behind.round);
      counter = counted;
      first = refl;
      past = ap (λ (p : List Txn). p ++ map (λ (i : Item). i.txn) (items_behind number n)) behind.past;
      fits = subst (Fits specials l) (sym (bare_stamped b.header.round s.rows m)) h;
    },
  )
    where
      counted : s.header.counter + length (items_behind number n) ≡ l.count
      counted = omega (arith, behind.counter, runs_count k l ms (block_runs number n), length-map ms (item_of (suc n) generated_genesis.chain.hash))

      is_apart : Apart (after s b m)
      is_apart app few = subst (λ (c : Chain). (same_address (app_account app) c.special.sink ≡ false) × (same_address (app_account app) c.special.pool ≡ false)) (sym behind.chain)
          (neither (same_address (app_account app) sink) (same_address (app_account app) pool) (apart app (omega (arith, few, counted))))
  by_due (Err (broken place rule)) e h is = absurd ((step_is_sound.within s b place rule ranged (consistent_of s behind.sound) is).0 h)
  by_due (Err (header f)) e h is = absurd h
  by_due (Err (pool_short has owed)) e h is = absurd (step_is_sound.pays s b has owed ranged behind.sound is)
  by_due (Err (expired place)) e h is = absurd h

  taken : (t : State) × (step s b ≡ Ok t) × Behind number (suc n) t
  unfolding step
  taken = by_due (due_of s b) refl passes refl

-- the next block is taken, or a clash is shown
abbrev Next : ℕ → ℕ → State → Type 0
Next number n s = ((t : State) × (step s (due_block s 0 (items_behind number n)) ≡ Ok t) × Behind number (suc n) t) ⊎ Clash number (suc n)

advance : (number n : ℕ) (s : State) → n < 100000 → Behind number n s → Next number n s
advance number n s soon behind = by_apart (apart_or (suc (progress_after number (suc n)).count))
  where
    by_new : IsApartTo (suc (progress_after number (suc n)).count) → AreNew (suc n) (map entry_of (past_txns number n)) (items_behind number n) ⊎ HasOneId number (suc n) → Next number n s
    by_new apart (inl new) = inl (taken number n s soon behind apart new)
    by_new apart (inr h) = inr (inl h)

    by_apart : IsApartTo (suc (progress_after number (suc n)).count) ⊎ HasSpecial (suc (progress_after number (suc n)).count) → Next number n s
    by_apart (inl apart) = by_new apart (new_or number n soon (map entry_of (past_txns number n)) (known_after number n) (known_after number (suc n)) (made_behind number n) (block_runs number n) (omega (arith, (far number (suc n)).few, soon)) (λ i c. c) (all_stood number n (omega (arith, soon))))
    by_apart (inr x) = inr (inr (special_shown number (suc n) x.0 x.1 x.2))

-- ---- the chain

ok_is : (s t : State) → ◌≡◌ {A = Result State Refusal} (Ok s) (Ok t) → s ≡ t
ok_is s t e = cc

starts : (number : ℕ) → Behind number 0 origin
unfolding progress_after
starts number = record {
  sound = start_is_sound generated_bytes generated_genesis is_genesis;
  chain = refl;
  round = refl;
  counter = refl;
  first = refl;
  past = refl;
  fits = begins;
}

behind_or : (number n : ℕ) (s : State) → n ≤ 100000 → replay origin (generated_blocks number n) ≡ Ok s → Behind number n s ⊎ Clash number n
behind_or number zero s l e = inl (subst (Behind number 0) (ok_is origin s (sym (ap (replay origin) (none_yet number)) ∙ e)) (starts number))
behind_or number (suc n) s l e = by_last (last_step number n s e) (behind_or number n (last_step number n s e).before (omega (arith, l)) (last_step number n s e).replayed)
  where
    by_next : (x : LastStep number n s) → Next number n x.before → Behind number (suc n) s ⊎ Clash number (suc n)
    by_next x (inl next) = inl (subst (Behind number (suc n)) (ok_is next.0 s (sym next.1 ∙ x.stepped)) next.2)
    by_next x (inr clash) = inr clash

    by_last : (x : LastStep number n s) → Behind number n x.before ⊎ Clash number n → Behind number (suc n) s ⊎ Clash number (suc n)
    by_last x (inl behind) = by_next x (advance number n x.before (omega (arith, l)) behind)
    by_last x (inr clash) = inr (clash_more number n clash)

pub generated_is_taken : GeneratedIsTaken
generated_is_taken number n s soon e = by_behind (behind_or number n s (omega (arith, soon)) e)
  where
    by_behind : Behind number n s ⊎ Clash number n → ((t : State) × (step s (due_block s 0 (items_behind number n)) ≡ Ok t)) ⊎ Clash number (suc n)
    by_behind (inr clash) = inr (clash_more number n clash)
    by_behind (inl behind) = by_next (advance number n s soon behind)
      where
        by_next : Next number n s → ((t : State) × (step s (due_block s 0 (items_behind number n)) ≡ Ok t)) ⊎ Clash number (suc n)
        by_next (inl next) = inl (next.0, next.1)
        by_next (inr clash) = inr clash
