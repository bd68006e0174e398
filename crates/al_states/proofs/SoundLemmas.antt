-- The states that are kept are consistent; where each is apart, each is sound, and no money is made or lost.
use Rattle.std.proofs.Common.{◌≡◌, ◌+◌, ◌≤◌, ◌<◌, ◌^◌, ℕ, zero, suc, List, [], ◌∷◌, length, sum_by, take, ap, ◌∙◌, arith, subst, sym, refl, Result, Ok, Err}
use Rattle.std.proofs.lemmas.List.Elements.{recursion_from_All}
use Rattle.std.specs.List.{AllByRecursion}
use Rattle.al_block.specs.declared.block.Block.{Block}
use Rattle.al_block.specs.Block.{IsBlock}
use Rattle.al_block.proofs.Within.{is_within}
use Rattle.al_deltas.specs.declared.delta.RoundDelta.{RoundDelta}
use Rattle.al_overlay.specs.Rules.{then_do}
use Rattle.al_eval.specs.Groups.{size_of}
use Rattle.al_eval.specs.Steps.{Refusal}
use Rattle.al_eval.specs.State.{State, step, replay}
use Rattle.al_eval.specs.Sound.{AreInRange, Consistent, Sound}
use Rattle.al_eval.proofs.Sounds.{consistent_of, step_consistent, step_keeps, step_sound}
use Rattle.al_states.specs.declared.keeping.KeptBlock.{KeptBlock}
use Rattle.al_states.specs.declared.states.States.{States}
use Rattle.al_states.specs.Held.{AreApart, KeepsMoney, money_in}
use Rattle.al_states.specs.Keeping.{Follows, IsStates, blocks_of, held}
use Rattle.al_states.proofs.KeepLemmas.{last_state, replay-then}

-- blocks whose numbers have 64 bits and whose effects are in their ranges
abbrev AllInRange : List Block → Type 0
AllInRange bs = AllByRecursion AreInRange bs

of_kept : (kept : List KeptBlock) → AllByRecursion (λ (k : KeptBlock). AreInRange k.block) kept → AllInRange (blocks_of kept)
of_kept [] h = tt
of_kept (k ∷ kept) h = (h.0, of_kept kept h.1)

-- those that are held
held_ranged : (s : States) → IsStates s → AllInRange (held s).blocks
held_ranged s k = of_kept s.kept.items (recursion_from_All (λ (x : KeptBlock). AreInRange x.block) s.kept.items k.ranged)

follows_consistent : (o last : State) (bs : List Block) (ds : List RoundDelta) → AllInRange bs → Consistent o → Follows o bs ds last → Consistent last
follows_consistent o last [] [] ranged h e = subst Consistent e h
follows_consistent o last [] (d ∷ ds) ranged h f = absurd f
follows_consistent o last (b ∷ bs) [] ranged h f = absurd f
follows_consistent o last (b ∷ bs) (d ∷ ds) ranged h (n, x, rest) = follows_consistent n last bs ds ranged.1 (step_consistent o n b ranged.0 h x.stepped) rest

-- the state that the next step begins with is consistent
pub last_consistent : (s : States) (k : IsStates s) → Consistent (last_state s k)
last_consistent s k = follows_consistent (held s).origin (last_state s k) (held s).blocks s.deltas.deltas (held_ranged s k) (consistent_of (held s).origin k.sound) k.follows

then_replayed : (due : Result State Refusal) (bs : List Block) (t : State) → then_do due (λ s. replay s bs) ≡ Ok t → (s : State) × (due ≡ Ok s) × (replay s bs ≡ Ok t)
then_replayed (Ok s) bs t e = (s, refl, e)
then_replayed (Err r) bs t e = absurd (let x : ◌≡◌ {A = Result State Refusal} (Err r) (Ok t) = e in cc)

ok_same : (s t : State) → ◌≡◌ {A = Result State Refusal} (Ok s) (Ok t) → s ≡ t
ok_same s t e = cc

replay_consistent : (s t : State) (bs : List Block) (n : ℕ) → AllInRange bs → Consistent s → replay s (take n bs) ≡ Ok t → Consistent t
replay_consistent s t bs zero ranged h e = subst Consistent (ok_same s t e) h
replay_consistent s t [] (suc n) ranged h e = subst Consistent (ok_same s t e) h
replay_consistent s t (b ∷ bs) (suc n) ranged h e =
    let m = then_replayed (step s b) (take n bs) t e in
    replay_consistent m.0 t bs n ranged.1 (step_consistent s m.0 b ranged.0 h m.1) m.2

-- the state after each of the blocks is consistent
pub at_consistent : (s : States) (n : ℕ) (t : State) → IsStates s → replay (held s).origin (take n (held s).blocks) ≡ Ok t → Consistent t
at_consistent s n t k e = replay_consistent (held s).origin t (held s).blocks n (held_ranged s k) (consistent_of (held s).origin k.sound) e

-- ---- where each state is apart

-- a sound state with the money of another
abbrev IsLikeFrom : State → State → Type 0
IsLikeFrom s t = Sound t × (money_in t ≡ money_in s)

same_like : (s t : State) → Sound s → ◌≡◌ {A = Result State Refusal} (Ok s) (Ok t) → IsLikeFrom s t
same_like s t h e = (subst Sound (ok_same s t e) h, ap money_in (sym (ok_same s t e)))

-- the first n blocks keep a state sound, and its money
replay_keeps : (s t : State) (bs : List Block) (n : ℕ) → AllInRange bs → AreApart (record { origin = s; blocks = bs }) → Sound s → replay s (take n bs) ≡ Ok t → IsLikeFrom s t
replay_keeps s t bs zero ranged apart h e = same_like s t h e
replay_keeps s t [] (suc n) ranged apart h e = same_like s t h e
replay_keeps s t (b ∷ bs) (suc n) ranged apart h e =
    let m = then_replayed (step s b) (take n bs) t e in
    let sound = step_sound s m.0 b ranged.0 h (apart 1 m.0 (replay-then s m.0 b [] m.1)) m.1 in
    let like = replay_keeps m.0 t bs n ranged.1 (λ k u r. apart (suc k) u (replay-then s m.0 b (take k bs) m.1 ∙ r)) sound m.2 in
    (like.0, like.1 ∙ step_keeps s m.0 b ranged.0 h m.1)

states_like : (s : States) → IsStates s → AreApart (held s) → (n : ℕ) (t : State) → replay (held s).origin (take n (held s).blocks) ≡ Ok t → IsLikeFrom (held s).origin t
states_like s k apart n t e = replay_keeps (held s).origin t (held s).blocks n (held_ranged s k) apart k.sound e

-- each state is sound
pub states_sound : (s : States) → IsStates s → AreApart (held s) → (n : ℕ) (t : State) → replay (held s).origin (take n (held s).blocks) ≡ Ok t → Sound t
states_sound s k apart n t e = (states_like s k apart n t e).0

-- no block that is held makes or loses money
pub states_money : (s : States) → IsStates s → AreApart (held s) → KeepsMoney (held s)
states_money s k apart = λ n t e. (states_like s k apart n t e).1

-- ---- a block that is spelled

-- its round is at most 2^62
pub round_within : (bytes : List ℕ) (b : Block) → IsBlock bytes b → b.header.round ≤ 2 ^ 62
round_within bytes b is = (is_within bytes b is).round

-- what it creates has numbers of 64 bits, where it has fewer than 2^31 bytes
pub created_within : (bytes : List ℕ) (b : Block) (counter : ℕ) → IsBlock bytes b → length bytes < 2 ^ 31 → counter ≤ 2 ^ 62 → counter + sum_by size_of b.items < 2 ^ 64
created_within bytes b counter is short few =
    let most : sum_by size_of b.items ≤ length bytes = (is_within bytes b is).transactions in
    omega (arith, short, few, most)
