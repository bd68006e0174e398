-- A chain that is made goes on.
use Rattle.std.proofs.Common.{◌≡◌, ◌+◌, ◌≤◌, ◌<◌, ◌^◌, ℕ, suc, List, [], ◌∷◌, ◌++◌, length, ap, arith, subst, sym, ◌∙◌, Result, Ok, Err, IfOk, OnOk}
use Rattle.al_block.specs.Ranges.{BlockRanges}
use Rattle.al_block.specs.declared.block.Block.{Block}
use Rattle.al_eval.specs.State.{State, replay}
use Rattle.al_generated.specs.Chain.{generated_blocks, items_behind, origin, progress_after}
use Rattle.al_generated.specs.Making.{IsMade, IsMaking}
use Rattle.al_generator.specs.Draws.{begin}
use Rattle.al_generated.proofs.ChainLemmas.{IsLedTo, and_next, led, next_fits, none_yet}
use Rattle.al_generator.specs.Genesis.{generated_genesis}
use Rattle.al_generator.specs.Items.{items_of}
use Rattle.al_generator.specs.Turns.{block}
use Rattle.al_generator.specs.declared.progress.Progress.{Progress}
use Rattle.al_states.specs.Due.{RewardsFit, due_block}
use Rattle.al_states.specs.Held.{Held}
use Rattle.al_states.specs.Keeping.{IsStates, held}
use Rattle.al_states.specs.declared.states.States.{States}
use Rattle.al_states.proofs.KeepLemmas.{last_state, led_to_last}
use Rattle.al_txn.specs.declared.txn.Item.{Item}

-- the state that the blocks of a held chain lead to is that of the generated ones
pub leads : (number n : ℕ) (s : States) (t : State) → held s ≡ record { origin = origin; blocks = generated_blocks number n } → replay (held s).origin (held s).blocks ≡ Ok t → replay origin (generated_blocks number n) ≡ Ok t
leads number n s t is e = ap (λ (h : Held). replay h.origin h.blocks) (sym is) ∙ e

back : (number n : ℕ) (s : States) (t : State) → held s ≡ record { origin = origin; blocks = generated_blocks number n } → replay origin (generated_blocks number n) ≡ Ok t → replay (held s).origin (held s).blocks ≡ Ok t
back number n s t is e = ap (λ (h : Held). replay h.origin h.blocks) is ∙ e

-- the last state of a made chain
pub last_led : (number n : ℕ) (s : States) (g : Progress) (m : IsMade number n s g) → n < 2 ^ 50 → IsLedTo number n (last_state s m.states)
last_led number n s g m few = led number n (last_state s m.states) few (leads number n s (last_state s m.states) m.held_is (led_to_last s m.states))

pub held_long : (number n : ℕ) (s : States) (g : Progress) → IsMade number n s g → n < 2 ^ 50 → length (held s).blocks ≡ n
held_long number n s g m few = ap (λ (h : Held). length h.blocks) m.held_is ∙ (last_led number n s g m few).long

-- two chains that are made so far have as many blocks
same_long : (number n other k : ℕ) (s : States) (g : Progress) → IsMade number n s g → IsMade other k s g → n < 2 ^ 50 → k < 2 ^ 50 → n ≡ k
same_long number n other k s g a b few less = sym (held_long number n s g a few) ∙ held_long other k s g b less

pub front_few : (s : States) (g : Progress) (front : ℕ) → IsMaking s g → front ≡ length (held s).blocks → front < 2 ^ 50
front_few s g front (number, n, m, few) at = (let long = held_long number n s g m few in omega (arith, at, long, few))

pub count_few : (s : States) (g : Progress) → IsMaking s g → g.count ≤ 2 ^ 62
count_few s g (number, n, m, few) =
    let l = last_led number n s g m few in
    let c = l.count in
    let e : g.count ≡ (progress_after number n).count = ap (λ (p : Progress). p.count) m.progress in
    omega (arith, c, e, few)

pub round_few : (s : States) (g : Progress) (t : State) → IsMaking s g → replay (held s).origin (held s).blocks ≡ Ok t → t.header.round < 2 ^ 62
round_few s g t (number, n, m, few) e = (let r = (led number n t few (leads number n s t m.held_is e)).round in omega (arith, r, few))

-- what the generator gives is what stands behind the blocks
pub items_are : (number n round : ℕ) (genesis : List ℕ) (s : States) (g : Progress) → IsMade number n s g → n < 2 ^ 50 → round ≡ length (held s).blocks + 1 → genesis ≡ generated_genesis.chain.hash → items_of round genesis (block g).0 ≡ items_behind number n
items_are number n round genesis s g m few at is =
    let long = held_long number n s g m few in
    let r : round ≡ suc n = omega (arith, at, long) in
    ap (λ x. items_of x genesis (block g).0) r ∙ ap (λ x. items_of (suc n) x (block g).0) is ∙ ap (λ (p : Progress). items_of (suc n) generated_genesis.chain.hash (block p).0) m.progress

-- ---- the next block

if_ok_then : {A E : Type 0} {P Q : A → Type 0} (r : Result A E) → ((a : A) → P a → Q a) → IfOk r P → IfOk r Q
if_ok_then (Ok a) f p = f a p
if_ok_then (Err e) f p = p

-- the block that is due over what is held
abbrev pub IsDue : States → List Item → Block → Type 0
IsDue s items b = (t : State) → replay (held s).origin (held s).blocks ≡ Ok t → b ≡ due_block t 0 items

-- is the next one of the chain
pub due_next : {E : Type 0} (number n : ℕ) (items : List Item) (s : States) (g : Progress) (t : State) (r : Result Block E) → IsMade number n s g → items ≡ items_behind number n → replay origin (generated_blocks number n) ≡ Ok t → IfOk r (IsDue s items) → IfOk r (λ b. b ≡ due_block t 0 (items_behind number n))
due_next number n items s g t r m is e p = if_ok_then {P = IsDue s items} {Q = λ b. b ≡ due_block t 0 (items_behind number n)} r (λ b h. h t (back number n s t m.held_is e) ∙ ap (due_block t 0) is) p

-- and in its ranges
block_fits : (number n : ℕ) (s : States) (g : Progress) (b : Block) (m : IsMade number n s g) → n < 2 ^ 50 → b ≡ due_block (last_state s m.states) 0 (items_behind number n) → RewardsFit b.header → BlockRanges b
block_fits number n s g b m few is rewards =
    let l = last_led number n s g m few in
    subst BlockRanges (sym is) (next_fits number n (last_state s m.states) few l (subst (λ (x : Block). RewardsFit x.header) is rewards))

if_ok_both : {A E : Type 0} {P Q R : A → Type 0} (r : Result A E) → ((a : A) → P a → Q a → R a) → IfOk r P → IfOk r Q → IfOk r R
if_ok_both (Ok a) f p q = f a p q
if_ok_both (Err e) f p q = p

pub fits_next : {E : Type 0} (round : ℕ) (genesis : List ℕ) (items : List Item) (s : States) (g : Progress) (r : Result Block E) → IsMaking s g → items ≡ items_of round genesis (block g).0 → round ≡ length (held s).blocks + 1 → genesis ≡ generated_genesis.chain.hash
    → IfOk r (IsDue s items) → IfOk r (λ b. RewardsFit b.header) → IfOk r BlockRanges
fits_next round genesis items s g r (number, n, m, few) e at is p q =
    let same = e ∙ items_are number n round genesis s g m few at is in
    let last = last_state s m.states in
    if_ok_both {P = IsDue s items} {Q = λ b. RewardsFit b.header} {R = BlockRanges} r (λ b h k. block_fits number n s g b m few (h last (led_to_last s m.states) ∙ ap (due_block last 0) same) k) p q

-- the generator stands behind it
pub stands : (number n : ℕ) (s : States) (g h : Progress) → IsMade number n s g → h ≡ (block g).1 → h ≡ progress_after number (suc n)
unfolding progress_after
stands number n s g h m e = e ∙ ap (λ (p : Progress). (block p).1) m.progress

-- ---- one block more

-- the block is of the round behind those that are held
pub is_later : (number n : ℕ) (s : States) (g : Progress) (b : Block) (m : IsMade number n s g) → n < 2 ^ 50 → b ≡ due_block (last_state s m.states) 0 (items_behind number n) → length (held s).blocks < b.header.round
is_later number n s g b m few is =
    let round = (last_led number n s g m few).round in
    let long = held_long number n s g m few in
    let r : b.header.round ≡ s.before.header.round + 1 = ap (λ (x : Block). x.header.round) is in
    omega (arith, round, long, r)

-- with it the chain is made one block farther
grown : (number n : ℕ) (s after : States) (g h : Progress) (b : Block) (m : IsMade number n s g) → IsStates after → b ≡ due_block (last_state s m.states) 0 (items_behind number n) → h ≡ progress_after number (suc n) → held after ≡ record (held s) { blocks = (held s).blocks ++ b ∷ [] } → IsMade number (suc n) after h
grown number n s after g h b m kept is stands e =
    let last = last_state s m.states in
    let due = due_block last 0 (items_behind number n) in
    let step : generated_blocks number (suc n) ≡ generated_blocks number n ++ due ∷ [] = and_next number n last (leads number n s last m.held_is (led_to_last s m.states)) in
    record {
      states = kept;
      held_is = e ∙ ap (λ (x : Block). record (held s) { blocks = (held s).blocks ++ x ∷ [] }) is ∙ ap (λ (k : Held). record k { blocks = k.blocks ++ due ∷ [] }) m.held_is ∙ ap (λ (bs : List Block). record { origin = origin; blocks = bs }) (sym step);
      progress = stands;
    }

pub on_ok_from : {A E : Type 0} {P : Type 0} (r : Result A E) → P → OnOk r P
on_ok_from (Ok a) p = p
on_ok_from (Err e) p = tt

on_ok_then : {A E : Type 0} {P Q : Type 0} (r : Result A E) → (P → Q) → OnOk r P → OnOk r Q
on_ok_then (Ok a) f p = f p
on_ok_then (Err e) f p = p

pub extended : {E : Type 0} (number n : ℕ) (s after : States) (g h : Progress) (b : Block) (r : Result (Unit {0}) E) → IsMade number n s g → n < 2 ^ 50 → IsStates after
    → ((t : State) → replay origin (generated_blocks number n) ≡ Ok t → b ≡ due_block t 0 (items_behind number n)) → h ≡ progress_after number (suc n)
    → (length (held s).blocks < b.header.round → OnOk r (held after ≡ record (held s) { blocks = (held s).blocks ++ b ∷ [] })) → OnOk r (IsMade number (suc n) after h)
extended number n s after g h b r m few kept due next taken =
    let last = last_state s m.states in
    let is = due last (leads number n s last m.held_is (led_to_last s m.states)) in
    on_ok_then {P = held after ≡ record (held s) { blocks = (held s).blocks ++ b ∷ [] }} {Q = IsMade number (suc n) after h} r (λ e. grown number n s after g h b m kept is next e) (taken (is_later number n s g b m few is))

-- ---- the whole chain

pub begun : (number : ℕ) (s : States) (g : Progress) → IsStates s → held s ≡ record { origin = origin; blocks = [] } → g ≡ begin number → IsMade number 0 s g
unfolding progress_after
begun number s g kept is e = record { states = kept; held_is = is ∙ ap (λ (bs : List Block). record { origin = origin; blocks = bs }) (sym (none_yet number)); progress = e }

-- the state that it leads to, and what is said of it
pub summed : (number n : ℕ) (s : States) (text : List ℕ) (say : State → List ℕ) → IsStates s → held s ≡ record { origin = origin; blocks = generated_blocks number n } → n ≤ 100000
    → ((t : State) → replay (held s).origin (held s).blocks ≡ Ok t → t.header.round ≡ length (held s).blocks → text ≡ say t) → (t : State) × (replay origin (generated_blocks number n) ≡ Ok t) × (text ≡ say t)
summed number n s text say kept is few says =
    let last = last_state s kept in
    let at = leads number n s last is (led_to_last s kept) in
    let l = led number n last (omega (arith, few)) at in
    let long : length (held s).blocks ≡ n = ap (λ (h : Held). length h.blocks) is ∙ l.long in
    (last, at, says last (led_to_last s kept) (l.round ∙ sym long))
