-- Tables that were moved up are those of a later state of the chain.
use Rattle.std.proofs.Common.{◌≡◌, ◌+◌, ◌-◌, ◌≤◌, ℕ, zero, suc, List, [], ◌∷◌, ◌++◌, length, map, max, take, drop, sym, ap, ap₂, ◌∙◌, arith, subst, append_assoc, Some, inr}
use Rattle.std.proofs.lemmas.List.{append-nil, length-take-le, take-append-drop}
use Rattle.std.specs.FinMap.{get, insert}
use Rattle.al_base.specs.declared.online.LevelAt.{LevelAt}
use Rattle.al_base.specs.declared.online.Version.{Version}
use Rattle.al_block.specs.declared.block.Block.{Block}
use Rattle.al_block.specs.declared.header.Header.{Header}
use Rattle.al_deltas.proofs.Nets.{batch_leads, creators_are, queue_from}
use Rattle.al_deltas.specs.declared.delta.RoundDelta.{RoundDelta}
use Rattle.al_deltas.specs.Net.{IsBatchOf, creators_after, level_of, levels_of, tables_after, version_of, versions_of}
use Rattle.al_deltas.specs.Queue.{AreRounds, IsQueue, Queue, from_round, last_creator, rows_after, top, totals_after, up_to}
use Rattle.al_eval.proofs.Chains.{after_step}
use Rattle.al_eval.proofs.Onlines.{snaps_after, step_keeps_last}
use Rattle.al_eval.specs.State.{State, last_snap}
use Rattle.al_history.proofs.Grown.{grows}
use Rattle.al_history.proofs.Pruned.{pruned}
use Rattle.al_history.specs.History.{IsHistory}
use Rattle.al_keeper.specs.Blocks.{Blocks}
use Rattle.al_online.specs.Laws.{Snaps}
use Rattle.al_online.specs.Stakes.{next_snap}
use Rattle.al_rows.specs.Finite.{or_below}
use Rattle.al_rows.specs.Rows.{bare, creator_of}
use Rattle.al_tables.specs.declared.batch.Batch.{Batch}
use Rattle.al_tables.specs.Tables.{Tables, committed, kept_levels, kept_versions}
use Rattle.al_ledger.specs.declared.recent.Recent.{Recent}
use Rattle.al_ledger.specs.Flushing.{with_floor}
use Rattle.al_online.specs.Memory.{Memory}
use Rattle.al_tail.specs.Past.{live}
use Rattle.al_ledger.specs.Keeping.{IsLedger, KeepsTables, Recalls, needed}
use Rattle.al_ledger.specs.Steps.{Follows, StepsTo}
use Rattle.al_ledger.specs.Window.{Window, front_of}
use Rattle.al_ledger.proofs.Looks.{at_n, changes_are, floor_is, front_is, led_to, take_past}
use Rattle.al_ledger.proofs.Steps.{IsAt}

-- ---- the history

-- what a state keeps of its last round, where that is this one
abbrev KeepsLastAt : State → ℕ → Type 0
KeepsLastAt s round = get s.snaps round ≡ Some (last_snap s)

-- the next state keeps the next round beside those before
next_snaps : (s n : State) (b : Block) (d : RoundDelta) (to : ℕ) → StepsTo s b d n → d.round ≡ suc to → n.snaps ≡ insert s.snaps (suc to) (next_snap d.header.level d.online (last_snap s))
next_snaps s n b d to x at =
    snaps_after s n b x.stepped
    ∙ ap₂ (insert s.snaps) (sym x.is_of.round ∙ at) (x.online ∙ ap (λ (h : Header). next_snap h.level d.online (last_snap s)) ((after_step s n b x.stepped).0 ∙ sym x.is_of.header))

next_keeps : (s n : State) (b : Block) (d : RoundDelta) (to : ℕ) → StepsTo s b d n → d.round ≡ suc to → KeepsLastAt n (suc to)
next_keeps s n b d to x at = subst (KeepsLastAt n) (ap (λ (h : Header). h.round) (after_step s n b x.stepped).0 ∙ sym x.is_of.round ∙ at) (step_keeps_last s n b x.stepped)

-- with what blocks change it is the history of the state after them
pub grown : (s m : State) (bs : List Block) (ds : List RoundDelta) (vs : List Version) (ls : List LevelAt) (low to : ℕ) → Follows s bs ds m → AreRounds to ds → KeepsLastAt s to → low ≤ to → IsHistory vs ls s.snaps low to
    → IsHistory (vs ++ versions_of ds) (ls ++ levels_of ds) m.snaps low (to + length ds) × KeepsLastAt m (to + length ds)
grown s m [] [] vs ls low to f rounds keeps least h =
    let none : to + 0 ≡ to = omega arith in (
      subst (λ (snaps : Snaps). IsHistory (vs ++ []) (ls ++ []) snaps low (to + 0)) (ap (λ (x : State). x.snaps) f) (subst (λ n. IsHistory (vs ++ []) (ls ++ []) s.snaps low n) (sym none) (subst (λ xs. IsHistory (vs ++ []) xs s.snaps low to) (sym (append-nil ls)) (subst (λ xs. IsHistory xs ls s.snaps low to) (sym (append-nil vs)) h))),
      subst (λ (x : State). KeepsLastAt x (to + 0)) f (subst (KeepsLastAt s) (sym none) keeps),
    )
grown s m [] (d ∷ ds) vs ls low to f rounds keeps least h = absurd f
grown s m (b ∷ bs) [] vs ls low to f rounds keeps least h = absurd f
grown s m (b ∷ bs) (d ∷ ds) vs ls low to (n, x, rest) rounds keeps least h =
    let at : d.round ≡ suc to = rounds.0 in
    let first = grows vs ls s.snaps low to d.header.level d.online (last_snap s) h least keeps in
    let versions = map (version_of d.round) d.online in
    let level : LevelAt = level_of d in
    let snapped = subst (λ (snaps : Snaps). IsHistory (vs ++ map (version_of (suc to)) d.online) (ls ++ record { round = suc to; level = d.header.level } ∷ []) snaps low (suc to)) (sym (next_snaps s n b d to x at)) first in
    let named = subst (λ k. IsHistory (vs ++ map (version_of k) d.online) (ls ++ record { round = k; level = d.header.level } ∷ []) n.snaps low (suc to)) (sym at) snapped in
    let more = grown n m bs ds (vs ++ versions) (ls ++ level ∷ []) low (suc to) rest rounds.1 (next_keeps s n b d to x at) (let e : low ≤ suc to = omega (arith, least) in e) named in
    let long : suc to + length ds ≡ to + suc (length ds) = omega arith in (
      subst (λ k. IsHistory (vs ++ versions_of (d ∷ ds)) (ls ++ levels_of (d ∷ ds)) m.snaps low k) long
          (subst (λ xs. IsHistory xs (ls ++ levels_of (d ∷ ds)) m.snaps low (suc to + length ds)) (append_assoc vs versions (versions_of ds))
          (subst (λ xs. IsHistory ((vs ++ versions) ++ versions_of ds) xs m.snaps low (suc to + length ds)) (append_assoc ls (level ∷ []) (levels_of ds)) more.0)),
      subst (KeepsLastAt m) long more.1,
    )

rounds_take : (base n : ℕ) (ds : List RoundDelta) → AreRounds base ds → AreRounds base (take n ds)
rounds_take base zero ds h = tt
rounds_take base (suc n) [] h = tt
rounds_take base (suc n) (d ∷ ds) h = (h.0, rounds_take (suc base) n ds h.1)

-- ---- one flush

needed_more : (a b : ℕ) → a ≤ b → needed a ≤ needed b
needed_more a b h = omega (arith, h)

module _ (w : Window) (t t2 : Tables) (kept : Blocks) (r r2 : Recent) (k : IsLedger w t kept r) (to : ℕ) (b : Batch) (from : r.deltas.base ≤ to) (below : to + 4 ≤ top r.deltas) (is_batch : IsBatchOf to r.deltas b) (moved : t2 ≡ committed b t)
    (dropped : r2.deltas ≡ from_round to r.deltas) (before : r2.before ≡ r.before) (tail : r2.tail ≡ r.tail) (online : r2.online ≡ r.online) where
  floored : w.floor ≤ to
  floored = subst (λ f. f ≤ to) (floor_is w t kept r k) from

  fronted : to + 4 ≤ front_of w
  fronted = subst (λ f. to + 4 ≤ f) (front_is w t kept r k) below

  x : IsAt k.middle k.last r.deltas.totals k.since r.deltas.deltas (to - length k.flushed)
  x = at_n w t kept r k to floored

  long : length (take to w.blocks) ≡ to
  long = length-take-le to w.blocks (let most = fronted in omega (arith, most))

  joined : w.blocks ≡ take to w.blocks ++ drop (to - length k.flushed) k.since
  joined =
      let low : length k.flushed ≤ to = (let e = k.floor_is in let f = floored in omega (arith, e, f)) in
      k.blocks_are
      ∙ ap (λ bs. k.flushed ++ bs) (sym (take-append-drop (to - length k.flushed) k.since))
      ∙ sym (append_assoc k.flushed (take (to - length k.flushed) k.since) (drop (to - length k.flushed) k.since))
      ∙ ap (λ bs. bs ++ drop (to - length k.flushed) k.since) (sym (take_past k.flushed k.since to low) ∙ ap (take to) (sym k.blocks_are))

  changes : up_to to r.deltas ≡ take (to - length k.flushed) r.deltas.deltas
  changes = changes_are w t kept r k to floored

  tables_is : t2 ≡ tables_after to r.deltas t
  tables_is = moved ∙ batch_leads r.deltas to b t is_batch

  rows_is : t2.rows ≡ x.state.rows
  rows_is =
      ap (λ (u : Tables). u.rows) tables_is
      ∙ ap (λ ds. rows_after ds t.rows) changes
      ∙ ap (rows_after (take (to - length k.flushed) r.deltas.deltas)) k.tables_are.rows_are
      ∙ sym x.rows_are

  creators_is : (id : ℕ) → get t2.creators id ≡ creator_of (bare x.state.rows) id
  creators_is id =
      ap (λ (u : Tables). get u.creators id) tables_is
      ∙ ap (λ ds. get (creators_after ds t.creators) id) changes
      ∙ creators_are (take (to - length k.flushed) r.deltas.deltas) t.creators id
      ∙ ap (or_below (last_creator id (take (to - length k.flushed) r.deltas.deltas))) (k.tables_are.creators_are id)
      ∙ sym (x.creators_are id)

  reached : length k.flushed + length (take (to - length k.flushed) r.deltas.deltas) ≡ to
  reached =
      let queued : to - length k.flushed ≤ length r.deltas.deltas = (let base = k.begins in omega (arith, base, below)) in
      let taken = length-take-le (to - length k.flushed) r.deltas.deltas queued in
      (let base = k.begins in omega (arith, taken, base, from))

  told : IsHistory (t.history ++ versions_of (take (to - length k.flushed) r.deltas.deltas)) (t.levels ++ levels_of (take (to - length k.flushed) r.deltas.deltas)) x.state.snaps (length k.flushed - 320) to × KeepsLastAt x.state to
  told =
      let grew = grown k.middle x.state (take (to - length k.flushed) k.since) (take (to - length k.flushed) r.deltas.deltas) t.history t.levels (length k.flushed - 320) (length k.flushed) x.to_there
      (rounds_take (length k.flushed) (to - length k.flushed) r.deltas.deltas (subst (λ m. AreRounds m r.deltas.deltas) k.begins k.queue_is.rounds)) k.keeps_last (let e : length k.flushed - 320 ≤ length k.flushed = omega arith in e) k.tables_are.history_is in (
        subst (IsHistory (t.history ++ versions_of (take (to - length k.flushed) r.deltas.deltas)) (t.levels ++ levels_of (take (to - length k.flushed) r.deltas.deltas)) x.state.snaps (length k.flushed - 320)) reached grew.0,
        subst (KeepsLastAt x.state) reached grew.1,
      )

  history_is : IsHistory t2.history t2.levels x.state.snaps (to - 320) to
  history_is =
      let less = pruned (t.history ++ versions_of (take (to - length k.flushed) r.deltas.deltas)) (t.levels ++ levels_of (take (to - length k.flushed) r.deltas.deltas)) x.state.snaps (length k.flushed - 320) to told.0 in
      let low : max (length k.flushed - 320) (to - 320) ≡ to - 320 = (let base = k.begins in omega (arith, base, from)) in
      let at = subst (λ m. IsHistory (kept_versions to (t.history ++ versions_of (take (to - length k.flushed) r.deltas.deltas))) (kept_levels to (t.levels ++ levels_of (take (to - length k.flushed) r.deltas.deltas))) x.state.snaps m to) low less in
      subst (λ (vs : List Version). IsHistory vs t2.levels x.state.snaps (to - 320) to) (sym (ap (λ (u : Tables). u.history) tables_is ∙ ap (λ ds. kept_versions to (t.history ++ versions_of ds)) changes))
      (subst (λ (ls : List LevelAt). IsHistory (kept_versions to (t.history ++ versions_of (take (to - length k.flushed) r.deltas.deltas))) ls x.state.snaps (to - 320) to) (sym (ap (λ (u : Tables). u.levels) tables_is ∙ ap (λ ds. kept_levels to (t.levels ++ levels_of ds)) changes)) at)

  -- the ledger of the same chain, its floor at the round
  pub moved_up : IsLedger (with_floor to w) t2 kept r2
  unfolding floored x
  moved_up = record {
    flushed = take to w.blocks;
    since = drop (to - length k.flushed) k.since;
    middle = x.state;
    last = k.last;
    blocks_are = joined;
    led = led_to w t kept r k to floored;
    follows = subst (λ (ds : List RoundDelta). Follows x.state (drop (to - length k.flushed) k.since) ds k.last) (ap (λ m. drop (to - m) r.deltas.deltas) (sym k.begins) ∙ sym (ap (λ (q : Queue). q.deltas) dropped)) x.from_there;
    floor_is = sym long;
    begins = ap (λ (q : Queue). q.base) dropped ∙ sym long;
    counted = ap (λ (q : Queue). q.totals) dropped ∙ ap (λ ds. totals_after ds r.deltas.totals) changes ∙ x.totals_are;
    tables_are = subst (λ m. KeepsTables m x.state t2) (sym long) (record {
      round_is = ap (λ (u : Tables). u.round) tables_is;
      rows_are = rows_is;
      creators_are = creators_is;
      history_is = history_is;
    });
    before_is = before ∙ k.before_is;
    tail_is = ap (live (suc (front_of w))) tail ∙ k.tail_is;
    recalls = subst (λ (m : Memory). Recalls m k.last.snaps (front_of w) (last_snap k.last)) (sym online) k.recalls;
    kept_are = record {
      first_is = k.kept_are.first_is;
      list_is = k.kept_are.list_is;
      from_one = k.kept_are.from_one;
      to_front = k.kept_are.to_front;
      enough = (let more = needed_more w.floor to floored in let least = k.kept_are.enough in omega (arith, more, least));
    };
    floor_fits = inr fronted;
    opened_is = (let low = floored in let least = k.opened_is in omega (arith, low, least));
    zero_is = k.zero_is;
    sound = k.sound;
    queue_is = subst IsQueue (sym dropped) (queue_from r.deltas to k.queue_is from (let most = below in omega (arith, most)));
    keeps_last = subst (KeepsLastAt x.state) (sym long) told.1;
    ranged = k.ranged;
    spelled = k.spelled;
  }
