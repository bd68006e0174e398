-- What look-ups give is of the state after the round.
use Rattle.std.proofs.Common.{◌≡◌, ◌+◌, ◌-◌, ◌≤◌, ◌<◌, ◌^◌, ℕ, zero, suc, List, [], ◌∷◌, ◌++◌, length, length-append, take, refl, sym, ap, ◌∙◌, arith, subst, Result, Ok, Err, Option, Some, None, option_map, unwrap_or}
use Rattle.std.specs.List.{AllByRecursion}
use Rattle.std.proofs.lemmas.List.Elements.{recursion_from_All}
use Rattle.std.specs.FinMap.{get}
use Rattle.al_answers.specs.Answers.{sum_of}
use Rattle.al_base.specs.declared.address.Address.{Address}
use Rattle.al_base.specs.declared.key.Key.{Key}
use Rattle.al_block.specs.declared.block.Block.{Block}
use Rattle.al_block.specs.Hashes.{header_hash_of}
use Rattle.al_deltas.proofs.Nets.{creators_are}
use Rattle.al_deltas.specs.Net.{creators_after}
use Rattle.al_deltas.specs.Queue.{last_creator, level_after, rows_after, top, totals_after, up_to}
use Rattle.al_eval.proofs.Sounds.{consistent_of, step_consistent}
use Rattle.al_eval.specs.Sound.{AreInRange, Consistent}
use Rattle.al_eval.specs.State.{State, counts_in, level_at, level_in, replay, row_at, row_in, step}
use Rattle.al_eval.specs.Steps.{Refusal}
use Rattle.al_keeper.specs.Blocks.{Blocks}
use Rattle.al_moves.proofs.Counts.{money_counted}
use Rattle.al_moves.specs.Totals.{counts}
use Rattle.al_online.specs.Memory.{capped_stake, snap_at}
use Rattle.al_online.specs.Stakes.{Snap, stake_at}
use Rattle.al_online.specs.declared.stake.Stake.{Stake}
use Rattle.al_overlay.specs.Rules.{then_do}
use Rattle.al_rewards.specs.declared.totals.Totals.{Totals}
use Rattle.al_rows.specs.Finite.{or_below}
use Rattle.al_rows.specs.Rows.{bare, creator_of}
use Rattle.al_states.specs.Rounds.{creator_after, of_state, snap_after, stake_after, stake_in_snap, totals_after as totals_at}
use Rattle.al_tables.specs.Tables.{StoredMap, Tables}
use Rattle.al_ledger.specs.declared.looking.LookRefusal.{LookRefusal}
use Rattle.al_ledger.specs.declared.looking.LookRefusal.TheVariants as refusals
use Rattle.al_ledger.specs.declared.recent.Recent.{Recent}
use Rattle.al_ledger.specs.Keeping.{IsLedger}
use Rattle.al_ledger.specs.Looking.{IsRound, IsRoundBack, LooksAt, LooksBack, round_of}
use Rattle.al_ledger.specs.Window.{Window, front_of}
use Rattle.al_ledger.proofs.Steps.{IsAt, follows_at, follows_length, follows_replay, replay_on}

-- ---- the round

-- what is shown after the round that is meant
pub shown_at : {A : Type 0} (F : Type 0) (w : Window) (floor front : ℕ) (round : Option ℕ) (Shows : ℕ → A → Type 0) (r : ℕ) (a : A) → floor ≡ w.floor → front ≡ front_of w → IsRound {F = F} floor front round (Ok r) → Shows r a → LooksAt {F = F} w round Shows (Ok a)
shown_at F w floor front round Shows r a low high is shows =
    let here = subst (λ n. IsRound {F = F} n (front_of w) round (Ok r)) low (subst (λ n. IsRound {F = F} floor n round (Ok r)) high is) in
    subst (λ n. (w.floor ≤ n) × (n ≤ front_of w) × Shows n a) here.0 (here.1, here.2, shows)

at_round : {A F : Type 0} (w : Window) (round : Option ℕ) (Shows : ℕ → A → Type 0) (e : LookRefusal F) → IsRound w.floor (front_of w) round (Err e) → LooksAt w round Shows (Err e)
at_round w round Shows (refusals.TooNew n) is = is
at_round w round Shows (refusals.BelowFloor f n) is = is
at_round w round Shows (refusals.BelowLookback n) is = is
at_round w round Shows (refusals.Keeper fault n) is = absurd is
at_round w round Shows refusals.Memory is = tt

pub refused_at : {A F : Type 0} (w : Window) (floor front : ℕ) (round : Option ℕ) (Shows : ℕ → A → Type 0) (e : LookRefusal F) → floor ≡ w.floor → front ≡ front_of w → IsRound floor front round (Err e) → LooksAt w round Shows (Err e)
refused_at w floor front round Shows e low high is = at_round w round Shows e (subst (λ n. IsRound n (front_of w) round (Err e)) low (subst (λ n. IsRound floor n round (Err e)) high is))

pub shown_back : {A : Type 0} (F : Type 0) (w : Window) (front : ℕ) (round : Option ℕ) (Shows : ℕ → A → Type 0) (r : ℕ) (a : A) → front ≡ front_of w → IsRoundBack {F = F} front round (Ok r) → Shows r a → LooksBack {F = F} w round Shows (Ok a)
shown_back F w front round Shows r a high is shows =
    let here = subst (λ n. IsRoundBack {F = F} n round (Ok r)) high is in
    subst (λ n. (n ≤ front_of w) × (front_of w ≤ n + 320) × Shows n a) here.0 (here.1, here.2, shows)

back_round : {A F : Type 0} (w : Window) (round : Option ℕ) (Shows : ℕ → A → Type 0) (e : LookRefusal F) → IsRoundBack (front_of w) round (Err e) → LooksBack w round Shows (Err e)
back_round w round Shows (refusals.TooNew n) is = is
back_round w round Shows (refusals.BelowFloor f n) is = is
back_round w round Shows (refusals.BelowLookback n) is = is
back_round w round Shows (refusals.Keeper fault n) is = absurd is
back_round w round Shows refusals.Memory is = tt

pub refused_back : {A F : Type 0} (w : Window) (front : ℕ) (round : Option ℕ) (Shows : ℕ → A → Type 0) (e : LookRefusal F) → front ≡ front_of w → IsRoundBack front round (Err e) → LooksBack w round Shows (Err e)
refused_back w front round Shows e high is = back_round w round Shows e (subst (λ n. IsRoundBack n round (Err e)) high is)

-- a keeper that failed was asked for a round that is shown
pub failed_at : (F : Type 0) (w : Window) (floor front : ℕ) (round : Option ℕ) (r n : ℕ) → floor ≡ w.floor → front ≡ front_of w → IsRound {F = F} floor front round (Ok r) → n ≡ front → (n ≡ front_of w) × (w.floor ≤ round_of (front_of w) round) × (round_of (front_of w) round ≤ front_of w)
failed_at F w floor front round r n low high is at =
    let here = subst (λ m. IsRound {F = F} m (front_of w) round (Ok r)) low (subst (λ m. IsRound {F = F} floor m round (Ok r)) high is) in
    (at ∙ high, subst (λ m. w.floor ≤ m) here.0 here.1, subst (λ m. m ≤ front_of w) here.0 here.2)

-- ---- consistent states

then_replayed : (due : Result State Refusal) (bs : List Block) (t : State) → then_do due (λ s. replay s bs) ≡ Ok t → (s : State) × (due ≡ Ok s) × (replay s bs ≡ Ok t)
then_replayed (Ok s) bs t e = (s, refl, e)
then_replayed (Err r) bs t e = absurd (let x : ◌≡◌ {A = Result State Refusal} (Err r) (Ok t) = e in cc)

ok_same : (s t : State) → ◌≡◌ {A = Result State Refusal} (Ok s) (Ok t) → s ≡ t
ok_same s t e = cc

replay_consistent : (s t : State) (bs : List Block) (n : ℕ) → AllByRecursion AreInRange bs → Consistent s → replay s (take n bs) ≡ Ok t → Consistent t
replay_consistent s t bs zero ranged h e = subst Consistent (ok_same s t e) h
replay_consistent s t [] (suc n) ranged h e = subst Consistent (ok_same s t e) h
replay_consistent s t (b ∷ bs) (suc n) ranged h e =
    let m = then_replayed (step s b) (take n bs) t e in
    replay_consistent m.0 t bs n ranged.1 (step_consistent s m.0 b ranged.0 h m.1) m.2

-- ---- the state after a round

pub take_past : {A : Type 0} (xs ys : List A) (n : ℕ) → length xs ≤ n → take n (xs ++ ys) ≡ xs ++ take (n - length xs) ys
take_past [] ys n h = ap (λ k. take k ys) (let e : n ≡ n - 0 = omega arith in e)
take_past (x ∷ xs) ys zero h = absurd (omega (arith, h))
take_past (x ∷ xs) ys (suc n) h = ap (λ zs. x ∷ zs) (take_past xs ys n (omega (arith, h)) ∙ ap (λ k. xs ++ take k ys) (let e : n - length xs ≡ suc n - suc (length xs) = omega arith in e))

module _ (w : Window) (tables : Tables) (kept : Blocks) (r : Recent) (k : IsLedger w tables kept r) where
  -- the queue's last round is the front
  pub front_is : top r.deltas ≡ front_of w
  front_is = (let all = ap length k.blocks_are ∙ length-append k.flushed k.since in let long = follows_length k.middle k.last k.since r.deltas.deltas k.follows in let base = k.begins in omega (arith, all, long, base))

  pub floor_is : r.deltas.base ≡ w.floor
  floor_is = k.begins ∙ sym k.floor_is

  -- all blocks lead to the last state
  pub led_to_last : replay w.origin w.blocks ≡ Ok k.last
  led_to_last = ap (replay w.origin) k.blocks_are ∙ replay_on w.origin k.middle k.flushed k.since k.led ∙ follows_replay k.middle k.last k.since r.deltas.deltas k.follows

  module _ (n : ℕ) (from : w.floor ≤ n) where
    pub at_n : IsAt k.middle k.last r.deltas.totals k.since r.deltas.deltas (n - length k.flushed)
    at_n = follows_at k.middle k.last r.deltas.totals k.since r.deltas.deltas (n - length k.flushed) k.counted k.follows

    -- the first blocks lead to the state there
    pub led_to : replay w.origin (take n w.blocks) ≡ Ok at_n.state
    led_to =
        ap (λ bs. replay w.origin (take n bs)) k.blocks_are
        ∙ ap (replay w.origin) (take_past k.flushed k.since n (let e = k.floor_is in omega (arith, e, from)))
        ∙ replay_on w.origin k.middle k.flushed (take (n - length k.flushed) k.since) k.led
        ∙ at_n.replayed

    pub changes_are : up_to n r.deltas ≡ take (n - length k.flushed) r.deltas.deltas
    changes_are = ap (λ b. take (n - b) r.deltas.deltas) k.begins

    pub consistent_there : Consistent at_n.state
    consistent_there = replay_consistent w.origin at_n.state w.blocks n (recursion_from_All AreInRange w.blocks k.ranged) (consistent_of w.origin k.sound) led_to

    middle_level : r.deltas.totals.level ≡ k.middle.header.level
    unfolding counts
    middle_level = ap (λ (t : Totals). t.level) k.counted

    -- the reward level after the round
    pub level_is : level_after (up_to n r.deltas) r.deltas.totals.level ≡ level_at w.origin w.blocks n
    level_is = ap (λ ds. level_after ds r.deltas.totals.level) changes_are ∙ ap (level_after (take (n - length k.flushed) r.deltas.deltas)) middle_level ∙ sym (ap level_in led_to ∙ at_n.level_is)

    -- the row under a key after the round
    pub row_is : (key : Key) → get (rows_after (up_to n r.deltas) tables.rows) key ≡ row_at w.origin w.blocks n key
    row_is key =
        ap (λ ds. get (rows_after ds tables.rows) key) changes_are
        ∙ ap (λ (m : StoredMap). get (rows_after (take (n - length k.flushed) r.deltas.deltas) m) key) k.tables_are.rows_are
        ∙ ap (λ (m : StoredMap). get m key) (sym at_n.rows_are)
        ∙ sym (ap (row_in key) led_to)

    -- the creator of an asset or an application after the round
    pub creator_is : (id : ℕ) → get (creators_after (up_to n r.deltas) tables.creators) id ≡ creator_after w.origin w.blocks n id
    creator_is id =
        ap (λ ds. get (creators_after ds tables.creators) id) changes_are
        ∙ creators_are (take (n - length k.flushed) r.deltas.deltas) tables.creators id
        ∙ ap (or_below (last_creator id (take (n - length k.flushed) r.deltas.deltas))) (k.tables_are.creators_are id)
        ∙ sym (at_n.creators_are id)
        ∙ sym (ap (of_state (λ (t : State). creator_of (bare t.rows) id)) led_to)

    totals_then : totals_after (up_to n r.deltas) r.deltas.totals ≡ counts_in at_n.state
    totals_then = ap (λ ds. totals_after ds r.deltas.totals) changes_are ∙ at_n.totals_are

    -- the money after the round
    pub totals_is : Some (totals_after (up_to n r.deltas) r.deltas.totals) ≡ totals_at w.origin w.blocks n
    totals_is = ap Some totals_then ∙ sym (ap (of_state (λ (t : State). Some (counts_in t))) led_to)

    pub totals_few : sum_of (totals_after (up_to n r.deltas) r.deltas.totals) < 2 ^ 64
    totals_few = subst (λ t. sum_of t < 2 ^ 64) (sym totals_then) (let most = consistent_there.money in let all = money_counted at_n.state.header.level (bare at_n.state.rows) in omega (arith, most, all))

  -- ---- what consensus asks

  -- what is remembered of a round is what the last state keeps of it
  pub snap_is : (n : ℕ) → n ≤ front_of w → front_of w ≤ n + 320 → snap_at r.online n ≡ snap_after w.origin w.blocks n
  snap_is n high low =
      k.recalls.shows n (let base = k.recalls.base_is in omega (arith, base, low)) (let last = k.recalls.top_is in omega (arith, last, high))
      ∙ sym (ap (of_state (λ (t : State). get t.snaps n)) led_to_last)

  -- the last block's hash
  pub hash_is : Some r.before.hash ≡ of_state (λ (t : State). Some (header_hash_of t.header)) (replay w.origin w.blocks)
  hash_is = ap (λ b. Some b.hash) k.before_is ∙ sym (ap (of_state (λ (t : State). Some (header_hash_of t.header))) led_to_last)

stake_in : (who : Address) (o : Option Snap) (stake : Option Stake) → Some stake ≡ option_map (λ s. option_map capped_stake (stake_at s who)) o → stake ≡ stake_in_snap who o
stake_in who None stake e = absurd (let x : ◌≡◌ {A = Option (Option Stake)} (Some stake) None = e in cc)
stake_in who (Some snap) stake e = ap (λ (o : Option (Option Stake)). unwrap_or o stake) e

pub stake_is : (w : Window) (tables : Tables) (kept : Blocks) (r : Recent) (k : IsLedger w tables kept r) (n : ℕ) (who : Address) (stake : Option Stake) → n ≤ front_of w → front_of w ≤ n + 320 → Some stake ≡ option_map (λ x. option_map capped_stake (stake_at x who)) (snap_at r.online n) → stake ≡ stake_after w.origin w.blocks n who
stake_is w tables kept r k n who stake high low e = stake_in who (snap_at r.online n) stake e ∙ ap (stake_in_snap who) (snap_is w tables kept r k n high low)
