-- What look-ups give is of the state after the round.
use Rattle.std.proofs.Common.{◌≡◌, ◌+◌, ◌≤◌, ◌<◌, ◌^◌, ℕ, length, take, refl, sym, ap, ◌∙◌, arith, subst, Ok, Err, Option, Some, None, option_map, unwrap_or}
use Rattle.std.specs.FinMap.{get}
use Rattle.al_answers.specs.Answers.{sum_of}
use Rattle.al_base.specs.declared.address.Address.{Address}
use Rattle.al_base.specs.declared.key.Key.{Key}
use Rattle.al_block.specs.Hashes.{header_hash_of}
use Rattle.al_deltas.specs.Queue.{last_change, last_creator, left_by, level_after, stored_at, top, totals_after, up_to}
use Rattle.al_deltas.proofs.Queues.{rows_are}
use Rattle.al_eval.specs.Sound.{Consistent}
use Rattle.al_eval.specs.State.{State, counts_in, level_at, level_in, replay, row_at, row_in}
use Rattle.al_moves.specs.Totals.{counts}
use Rattle.al_moves.proofs.Counts.{money_counted}
use Rattle.al_online.specs.Memory.{capped_stake, snap_at, top as last_round}
use Rattle.al_online.specs.Stakes.{Snap, stake_at}
use Rattle.al_online.specs.declared.stake.Stake.{Stake}
use Rattle.al_rewards.specs.declared.totals.Totals.{Totals}
use Rattle.al_rows.specs.declared.row.Row.{Row}
use Rattle.al_rows.specs.declared.stored.Stored.{Stored}
use Rattle.al_rows.specs.Finite.{or_below}
use Rattle.al_rows.specs.Rows.{bare, creator_of}
use Rattle.al_states.specs.declared.looking.LookRefusal.{LookRefusal}
use Rattle.al_states.specs.declared.looking.LookRefusal.TheVariants as refusals
use Rattle.al_states.specs.declared.states.States.{States}
use Rattle.al_states.specs.Held.{Held}
use Rattle.al_states.specs.Keeping.{IsStates, held}
use Rattle.al_states.specs.Looking.{IsRound, IsRoundBack, LooksAt, LooksBack, front_of}
use Rattle.al_states.specs.Rounds.{creator_after, of_state, snap_after, stake_after, stake_in_snap, totals_after as totals_at}
use Rattle.al_states.proofs.KeepLemmas.{first_rounds, led_to_last, states_at, top_is}
use Rattle.al_states.proofs.SoundLemmas.{at_consistent}

-- ---- the round

-- what is shown after the round that is meant
pub shown_at : {A : Type 0} (h : Held) (round : Option ℕ) (Shows : ℕ → A → Type 0) (r : ℕ) (a : A) → IsRound h round (Ok r) → Shows r a → LooksAt h round Shows (Ok a)
shown_at h round Shows r a is shows = (subst (λ n. n ≤ front_of h) is.0 is.1, subst (λ n. Shows n a) is.0 shows)

pub refused_at : {A : Type 0} (h : Held) (round : Option ℕ) (Shows : ℕ → A → Type 0) (e : LookRefusal) → IsRound h round (Err e) → LooksAt h round Shows (Err e)
refused_at h round Shows (refusals.TooNew front) is = is
refused_at h round Shows (refusals.BelowLookback front) is = is
refused_at h round Shows refusals.Memory is = tt

pub shown_back : {A : Type 0} (h : Held) (round : Option ℕ) (Shows : ℕ → A → Type 0) (r : ℕ) (a : A) → IsRoundBack h round (Ok r) → Shows r a → LooksBack h round Shows (Ok a)
shown_back h round Shows r a is shows = subst (λ n. (n ≤ front_of h) × (front_of h ≤ n + 320) × Shows n a) is.0 (is.1, is.2, shows)

pub refused_back : {A : Type 0} (h : Held) (round : Option ℕ) (Shows : ℕ → A → Type 0) (e : LookRefusal) → IsRoundBack h round (Err e) → LooksBack h round Shows (Err e)
refused_back h round Shows (refusals.TooNew front) is = is
refused_back h round Shows (refusals.BelowLookback front) is = is
refused_back h round Shows refusals.Memory is = is

-- a round that is too new is so for what consensus asks
pub refused_sooner : (h : Held) (round : Option ℕ) (e : LookRefusal) → IsRound h round (Err e) → IsRoundBack h round (Err e)
refused_sooner h round (refusals.TooNew front) is = is
refused_sooner h round (refusals.BelowLookback front) is = absurd is
refused_sooner h round refusals.Memory is = is

-- the queue begins at or before it
pub begun : (s : States) (n : ℕ) → IsStates s → s.deltas.base ≤ n
begun s n k = omega (arith, k.begins)

pub within : (s : States) (n : ℕ) (k : IsStates s) → n ≤ length (held s).blocks → n ≤ top s.deltas
within s n k h = (let t = top_is s k in omega (arith, t, h))

-- ---- rows and levels

-- the row after a round
row_is : (s : States) (n : ℕ) (key : Key) → IsStates s → row_at (held s).origin (held s).blocks n key ≡ or_below (option_map left_by (last_change key (up_to n s.deltas))) (get s.base key)
row_is s n key k =
    let x = states_at s n k in
    ap (row_in key) x.replayed
    ∙ ap (λ m. get m key) x.rows_are
    ∙ rows_are (take n s.deltas.deltas) s.base key
    ∙ ap (λ ds. or_below (option_map left_by (last_change key ds)) (get s.base key)) (sym (first_rounds s n k))

plain : (round : ℕ) (row : Option Row) → option_map (λ s. s.row) (stored_at round row) ≡ row
plain round None = refl
plain round (Some r) = refl

-- it is what its last change left
pub row_changed : (s : States) (n : ℕ) (key : Key) (c : ℕ × Option Row) → IsStates s → Some c ≡ last_change key (up_to n s.deltas) → c.1 ≡ option_map (λ s. s.row) (row_at (held s).origin (held s).blocks n key)
row_changed s n key c k found =
    sym (plain c.0 c.1)
    ∙ ap (λ o. option_map (λ (x : Stored). x.row) (or_below (option_map left_by o) (get s.base key))) found
    ∙ sym (ap (option_map (λ (x : Stored). x.row)) (row_is s n key k))

-- or the row at the origin
pub row_below : (s : States) (n : ℕ) (key : Key) → IsStates s → None ≡ last_change key (up_to n s.deltas) → option_map (λ s. s.row) (get s.base key) ≡ option_map (λ s. s.row) (row_at (held s).origin (held s).blocks n key)
row_below s n key k found =
    ap (λ o. option_map (λ (x : Stored). x.row) (or_below (option_map left_by o) (get s.base key))) found
    ∙ sym (ap (option_map (λ (x : Stored). x.row)) (row_is s n key k))

first_level : (s : States) (k : IsStates s) → s.deltas.totals.level ≡ s.first.level
unfolding counts
first_level s k = ap (λ (t : Totals). t.level) k.counted

-- the reward level after a round
pub level_is : (s : States) (n : ℕ) → IsStates s → level_after (up_to n s.deltas) s.deltas.totals.level ≡ level_at (held s).origin (held s).blocks n
level_is s n k =
    let x = states_at s n k in
    ap (λ ds. level_after ds s.deltas.totals.level) (first_rounds s n k) ∙ ap (level_after (take n s.deltas.deltas)) (first_level s k) ∙ sym (ap level_in x.replayed ∙ x.level_is)

-- ---- creators

creator_is : (s : States) (n id : ℕ) → IsStates s → creator_after (held s).origin (held s).blocks n id ≡ or_below (last_creator id (up_to n s.deltas)) (creator_of (bare s.base) id)
creator_is s n id k =
    let x = states_at s n k in
    ap (of_state (λ (t : State). creator_of (bare t.rows) id)) x.replayed
    ∙ x.creators_are id
    ∙ ap (λ ds. or_below (last_creator id ds) (creator_of (bare s.base) id)) (sym (first_rounds s n k))

-- the creator is what its last change left
pub creator_changed : (s : States) (n id : ℕ) (who : Option Address) → IsStates s → Some who ≡ last_creator id (up_to n s.deltas) → who ≡ creator_after (held s).origin (held s).blocks n id
creator_changed s n id who k found = ap (λ o. or_below o (creator_of (bare s.base) id)) found ∙ sym (creator_is s n id k)

-- or the creator at the origin
pub creator_below : (s : States) (n id : ℕ) → IsStates s → None ≡ last_creator id (up_to n s.deltas) → creator_of (bare s.base) id ≡ creator_after (held s).origin (held s).blocks n id
creator_below s n id k found = ap (λ o. or_below o (creator_of (bare s.base) id)) found ∙ sym (creator_is s n id k)

-- ---- money

-- the totals of a consistent state are of 64 bits together
few_in : (s : State) → Consistent s → sum_of (counts_in s) < 2 ^ 64
few_in s h = (let most = h.money in let all = money_counted s.header.level (bare s.rows) in omega (arith, most, all))

module _ (s : States) (n : ℕ) (k : IsStates s) where
  totals_then : totals_after (up_to n s.deltas) s.deltas.totals ≡ counts_in (states_at s n k).state
  totals_then = ap (λ ds. totals_after ds s.deltas.totals) (first_rounds s n k) ∙ (states_at s n k).totals_are

  pub totals_is : Some (totals_after (up_to n s.deltas) s.deltas.totals) ≡ totals_at (held s).origin (held s).blocks n
  totals_is = ap Some totals_then ∙ sym (ap (of_state (λ (t : State). Some (counts_in t))) (states_at s n k).replayed)

  pub totals_few : sum_of (totals_after (up_to n s.deltas) s.deltas.totals) < 2 ^ 64
  totals_few = subst (λ t. sum_of t < 2 ^ 64) (sym totals_then) (few_in (states_at s n k).state (at_consistent s n (states_at s n k).state k (states_at s n k).replayed))

-- ---- what consensus asks

pub remembered_from : (s : States) (n : ℕ) → IsStates s → s.online.base ≤ n
remembered_from s n k = (let b = k.online.from_start in omega (arith, b))

pub remembered_top : (s : States) (n : ℕ) → IsStates s → n ≤ length (held s).blocks → n ≤ last_round s.online
remembered_top s n k h = (let t = k.online.top_is in omega (arith, t, h))

-- what is remembered of a round is what the last state keeps of it
pub snap_is : (s : States) (n : ℕ) → IsStates s → n ≤ length (held s).blocks → snap_at s.online n ≡ snap_after (held s).origin (held s).blocks n
snap_is s n k h =
    k.online.shows n (remembered_from s n k) (remembered_top s n k h)
    ∙ sym (ap (of_state (λ (t : State). get t.snaps n)) (led_to_last s k))

stake_in : (who : Address) (o : Option Snap) (stake : Option Stake) → Some stake ≡ option_map (λ s. option_map capped_stake (stake_at s who)) o → stake ≡ stake_in_snap who o
stake_in who None stake e = absurd (let x : ◌≡◌ {A = Option (Option Stake)} (Some stake) None = e in cc)
stake_in who (Some snap) stake e = ap (λ (o : Option (Option Stake)). unwrap_or o stake) e

pub stake_is : (s : States) (n : ℕ) (who : Address) (stake : Option Stake) → IsStates s → n ≤ length (held s).blocks → Some stake ≡ option_map (λ x. option_map capped_stake (stake_at x who)) (snap_at s.online n) → stake ≡ stake_after (held s).origin (held s).blocks n who
stake_is s n who stake k h e = stake_in who (snap_at s.online n) stake e ∙ ap (stake_in_snap who) (snap_is s n k h)

-- ---- the last block

pub hash_is : (s : States) → (k : IsStates s) → Some s.before.hash ≡ of_state (λ (t : State). Some (header_hash_of t.header)) (replay (held s).origin (held s).blocks)
hash_is s k = ap Some k.hash_is ∙ sym (ap (of_state (λ (t : State). Some (header_hash_of t.header))) (led_to_last s k))
