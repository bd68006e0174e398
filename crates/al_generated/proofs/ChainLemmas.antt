-- What is so of the state after the first blocks of a generated chain.
use Rattle.std.proofs.Common.{◌≡◌, ◌+◌, ◌*◌, ◌≤◌, ◌<◌, ◌^◌, ℕ, zero, suc, List, [], ◌∷◌, ◌++◌, append-nil, length, map, refl, ap, arith, lit<, subst, sym, ◌∙◌, Result, Ok, Err}
use Rattle.std.proofs.lemmas.List.{length-append}
use Rattle.al_block.specs.declared.block.Block.{Block}
use Rattle.al_block.specs.declared.header.Header.{Header}
use Rattle.al_block.specs.Ranges.{BlockRanges}
use Rattle.al_bodies.specs.Ranges.{IsArray}
use Rattle.al_digest.specs.declared.hashing.Prefix.TheVariants as prefixes
use Rattle.al_block.specs.Header.{header}
use Rattle.al_msgpack.specs.Spelled.{spelled}
use Rattle.al_msgpack.specs.declared.val.Val.TheVariants as values
use Rattle.al_txn.specs.Item.{item}
use Rattle.al_eval.specs.State.{State, replay, step}
use Rattle.al_eval.specs.Steps.{Refusal}
use Rattle.al_eval.proofs.Chains.{after_step}
use Rattle.al_generated.specs.Chain.{generated_blocks, items_behind, next_block, origin, progress_after}
use Rattle.al_generator.specs.Fits.{IsWithin}
use Rattle.al_generator.specs.Genesis.{generated_genesis}
use Rattle.al_generator.proofs.Good.{array_of}
use Rattle.al_generator.proofs.RangeLemmas.{digest_array, draws}
use Rattle.al_overlay.specs.Rules.{then_do}
use Rattle.al_states.specs.Due.{RewardsFit, due_block, due_header}
use Rattle.al_txn.specs.declared.chain.Chain.{Chain}

-- ---- replay

-- blocks behind blocks
joined : (r : Result State Refusal) (bs cs : List Block) → ((t : State) → replay t (bs ++ cs) ≡ then_do (replay t bs) (λ u. replay u cs)) → then_do r (λ t. replay t (bs ++ cs)) ≡ then_do (then_do r (λ t. replay t bs)) (λ u. replay u cs)
joined (Ok t) bs cs h = h t
joined (Err e) bs cs h = refl

replay-append : (o : State) (bs cs : List Block) → replay o (bs ++ cs) ≡ then_do (replay o bs) (λ t. replay t cs)
replay-append o [] cs = refl
replay-append o (b ∷ bs) cs = joined (step o b) bs cs (λ t. replay-append t bs cs)

ok_or : (s : State) (e : Refusal) → ◌≡◌ {A = Result State Refusal} (Err e) (Ok s) → ⊥
ok_or s e h = absurd cc

alone : (s : State) (r : Result State Refusal) → then_do r (λ t. replay t []) ≡ Ok s → r ≡ Ok s
alone s (Ok t) e = e
alone s (Err x) e = e

-- the last of the blocks is the one that is due over the state before it
pub record LastStep (number n : ℕ) (s : State) : Type 0 where
  pub before : State
  pub replayed : replay origin (generated_blocks number n) ≡ Ok before
  pub stepped : step before (due_block before 0 (items_behind number n)) ≡ Ok s

last_of : (number n : ℕ) (s : State) (bs : List Block) (r : Result State Refusal) → replay origin bs ≡ r → replay origin (bs ++ next_block number n r) ≡ Ok s → (t : State) × (r ≡ Ok t) × (step t (due_block t 0 (items_behind number n)) ≡ Ok s)
last_of number n s bs (Ok t) at e =
    let due = due_block t 0 (items_behind number n) in
    let x : then_do (replay origin bs) (λ u. replay u (due ∷ [])) ≡ Ok s = sym (replay-append origin bs (due ∷ [])) ∙ e in
    let y : replay t (due ∷ []) ≡ Ok s = ap (λ q. then_do q (λ u. replay u (due ∷ []))) (sym at) ∙ x in
    (t, refl, alone s (step t due) y)
last_of number n s bs (Err x) at e = absurd (ok_or s x (sym at ∙ ap (replay origin) (sym (append-nil bs)) ∙ e))

pub last_step : (number n : ℕ) (s : State) → replay origin (generated_blocks number (suc n)) ≡ Ok s → LastStep number n s
unfolding generated_blocks
last_step number n s e =
    let x = last_of number n s (generated_blocks number n) (replay origin (generated_blocks number n)) refl e in
    record { before = x.0; replayed = x.1; stepped = x.2 }

-- the blocks with the next one
pub and_next : (number n : ℕ) (t : State) → replay origin (generated_blocks number n) ≡ Ok t → generated_blocks number (suc n) ≡ generated_blocks number n ++ due_block t 0 (items_behind number n) ∷ []
unfolding generated_blocks
and_next number n t e = ap (λ r. generated_blocks number n ++ next_block number n r) e

pub none_yet : (number : ℕ) → generated_blocks number 0 ≡ []
unfolding generated_blocks
none_yet number = refl

-- ---- the state

pub record IsLedTo (number n : ℕ) (s : State) : Type 0 where
  pub long : length (generated_blocks number n) ≡ n
  pub round : s.header.round ≡ n
  pub counter : s.header.counter ≡ (progress_after number n).count
  pub count : (progress_after number n).count ≤ 8 * n
  pub chain : s.chain ≡ generated_genesis.chain
  pub within : IsWithin (progress_after number n)

first : (number : ℕ) → IsLedTo number 0 origin
unfolding generated_blocks progress_after
first number = record { long = refl; round = refl; counter = refl; count = omega arith; chain = refl; within = draws.begun number }

-- how far the generator is behind the next block
record IsNextProgress (number n : ℕ) : Type 0 where
  count : (progress_after number (suc n)).count ≡ (progress_after number n).count + length (items_behind number n)
  few : length (items_behind number n) ≤ 8
  within : IsWithin (progress_after number (suc n))

next_progress : (number n : ℕ) → n < 2 ^ 50 → (progress_after number n).count ≤ 8 * n → IsWithin (progress_after number n) → IsNextProgress number n
unfolding progress_after
next_progress number n few count within =
    let fits = draws.blocks (suc n) generated_genesis.chain.hash (progress_after number n) (omega (arith, few)) draws.hash (omega (arith, few, count)) within in
    record { count = fits.counted; few = fits.few; within = fits.within }

more : (number n : ℕ) (t s : State) → n < 2 ^ 50 → replay origin (generated_blocks number n) ≡ Ok t → IsLedTo number n t → step t (due_block t 0 (items_behind number n)) ≡ Ok s → IsLedTo number (suc n) s
more number n t s few at led e =
    let due = due_block t 0 (items_behind number n) in
    let left = after_step t s due e in
    let next = next_progress number n few led.count led.within in
    let long : length (generated_blocks number (suc n)) ≡ length (generated_blocks number n ++ due ∷ []) = ap (λ (xs : List Block). length xs) (and_next number n t at) in
    record {
      long = omega (arith, long, length-append (generated_blocks number n) (due ∷ []), led.long);
      round = ap (λ (h : Header). h.round) left.0 ∙ (let r = led.round in omega (arith, r));
      counter = ap (λ (h : Header). h.counter) left.0 ∙ (let c = led.counter in let m = next.count in omega (arith, c, m));
      count = (let m = next.count in let f = next.few in let c = led.count in omega (arith, m, f, c));
      chain = left.1 ∙ led.chain;
      within = next.within;
    }

begins : (s : State) → ◌≡◌ {A = Result State Refusal} (Ok origin) (Ok s) → origin ≡ s
begins s e = cc

-- what is so of the state that the first blocks lead to
pub led : (number n : ℕ) (s : State) → n < 2 ^ 50 → replay origin (generated_blocks number n) ≡ Ok s → IsLedTo number n s
led number zero s few e = subst (IsLedTo number 0) (begins s (sym (ap (replay origin) (none_yet number)) ∙ e)) (first number)
led number (suc n) s few e =
    let x = last_step number n s e in
    let less : n < 2 ^ 50 = omega (arith, few) in
    more number n x.before s less x.replayed (led number n x.before less x.replayed) x.stepped

-- ---- the next block is in its ranges

pub few_items : (number n : ℕ) (s : State) → n < 2 ^ 50 → IsLedTo number n s → length (items_behind number n) ≤ 8
few_items number n s few l = (next_progress number n few l.count l.within).few

pub next_fits : (number n : ℕ) (s : State) → n < 2 ^ 50 → IsLedTo number n s → RewardsFit (due_header s 0 (items_behind number n)) → BlockRanges (due_block s 0 (items_behind number n))
next_fits number n s few l rewards =
    let fits = draws.blocks (suc n) generated_genesis.chain.hash (progress_after number n) (omega (arith, few)) draws.hash (let c = l.count in omega (arith, few, c)) l.within in
    let few8 = fits.few in
    record {
      front = record {
        round = (let r = l.round in omega (arith, r, few));
        prev = digest_array prefixes.Header (spelled (values.Map (header.write s.header)));
        ts = omega arith;
        genesis_hash = subst (λ (c : Chain). IsArray 32 c.hash) (sym l.chain) draws.hash;
        sink = subst (λ (c : Chain). IsArray 32 c.special.sink.0) (sym l.chain) (array_of 32 1 (lit< tt));
        pool = subst (λ (c : Chain). IsArray 32 c.special.pool.0) (sym l.chain) (array_of 32 2 (lit< tt));
        level = rewards.level;
        rate = rewards.rate;
        residue = rewards.residue;
        recalc = rewards.recalc;
        counter = (let c = l.counter in let m = l.count in omega (arith, c, m, few, few8));
        payset = digest_array prefixes.Payset (spelled (values.List (map (λ es. values.Map es) (map item.write (items_behind number n)))));
        few = omega arith;
        expired = tt;
        apart = refl;
      };
      items = fits.items;
      count = omega (arith, few8);
    }
