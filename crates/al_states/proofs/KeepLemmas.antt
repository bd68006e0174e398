-- The kept states are those of the chain.
use Rattle.std.proofs.Common.{length-append, ◌≡◌, ◌≤◌, ◌<◌, ◌-◌, ◌^◌, ℕ, zero, suc, List, [], ◌∷◌, ◌++◌, length, take, map, All, get_or, refl, sym, ap, ap₂, ◌∙◌, arith, subst, Bool, true, false, if◌then◌else◌, Result, Ok, Err, Option, Some, None, IfOk, IfSome}
use Rattle.std.proofs.lemmas.List.{map-append, length-map}
use Rattle.std.proofs.lemmas.List.Elements.{All-push, recursion_from_All}
use Rattle.std.specs.List.{AllByRecursion}
use Rattle.std.specs.FinMap.{insert}
use Rattle.std.specs.List.Sorted.{IsStrictlySortedBy}
use Rattle.std.specs.Option.{option_or}
use Rattle.std.specs.Ordering.{nat_cmp}
use Rattle.al_base.specs.declared.address.Address.{Address}
use Rattle.al_base.specs.Keys.{address_cmp, key_cmp}
use Rattle.al_msgpack.proofs.Canonical.{spells_only}
use Rattle.al_msgpack.specs.declared.val.Val.TheVariants as values
use Rattle.al_block.specs.Block.{block, IsBlock}
use Rattle.al_block.specs.declared.block.Block.{Block}
use Rattle.al_block.specs.declared.header.Header.{Header}
use Rattle.al_block.specs.Hashes.{header_hash_of}
use Rattle.al_block.proofs.Within.{is_within}
use Rattle.al_deltas.specs.declared.delta.RoundDelta.{RoundDelta}
use Rattle.al_tables.specs.Tables.{StoredMap}
use Rattle.al_deltas.specs.Queue.{Queue, IsKeptDelta, after_delta, and_delta, creator_in, last_creator, last_of, level_after, rows_after, top, totals_after, up_to}
use Rattle.al_deltas.proofs.Queues.{last_pushed, rows_then}
use Rattle.al_rewards.specs.declared.totals.Totals.{Totals}
use Rattle.al_rows.specs.Finite.{or_below}
use Rattle.al_rows.specs.Rows.{IsKept, bare, creator_of, same_bytes}
use Rattle.std.proofs.lemmas.Slice.Eq.{bytes_eq-Decides}
use Rattle.al_txn.specs.declared.chain.Chain.{Chain}
use Rattle.al_txn.specs.declared.txn.Item.{Item}
use Rattle.al_txn.specs.declared.txn.Txn.{Txn}
use Rattle.al_overlay.specs.Rules.{then_do}
use Rattle.al_moves.specs.Created.{same_creator}
use Rattle.al_moves.specs.Totals.{counts}
use Rattle.al_moves.proofs.Follows.{same_is_true}
use Rattle.al_eval.specs.Answers.{IsDeltaOf}
use Rattle.al_eval.specs.Evaluated.{delta_in}
use Rattle.al_tail.specs.Past.{entry_of}
use Rattle.al_eval.specs.Sound.{AreInRange, IsStep}
use Rattle.al_eval.specs.declared.before.Before.{Before}
use Rattle.al_eval.specs.declared.before.EvalRefusal.{EvalRefusal}
use Rattle.al_eval.specs.declared.run.Evaluated.{Evaluated}
use Rattle.al_tail.specs.declared.tail.Entry.{Entry}
use Rattle.al_eval.specs.Steps.{Refusal}
use Rattle.al_eval.specs.Snaps.{snap_of}
use Rattle.al_eval.specs.State.{State, before_of, counts_in, last_snap, step, replay}
use Rattle.al_eval.proofs.Chains.{after_step}
use Rattle.al_eval.proofs.Nexts.{rows_follow}
use Rattle.al_eval.proofs.Onlines.{snaps_after}
use Rattle.al_online.specs.Laws.{Snaps}
use Rattle.al_online.specs.Memory.{Memory, and_round, top as last_round}
use Rattle.al_online.specs.Stakes.{Snap, next_snap}
use Rattle.al_online.proofs.Once.{once_where_rising}
use Rattle.al_states.proofs.MemoryLemmas.{remembers_more}
use Rattle.al_states.specs.declared.keeping.KeptBlock.{KeptBlock}
use Rattle.al_states.specs.declared.states.States.{States}
use Rattle.al_states.specs.Held.{IsValid}
use Rattle.al_states.specs.Keeping.{EvaluatesTo, Follows, IsEvaluated, IsKeeping, IsStates, Leads, Remembers, StepsTo, blocks_of, caught_up, held, origin_of}
use Rattle.al_states.specs.Replies.{IsBlockOf}

-- replay goes on from where it came
pub replay-then : (o s : State) (b : Block) (bs : List Block) → step o b ≡ Ok s → replay o (b ∷ bs) ≡ replay s bs
replay-then o s b bs e = ap (λ r. then_do r (λ t. replay t bs)) e

-- what is kept leads through the replay
pub follows_replay : (o last : State) (bs : List Block) (ds : List RoundDelta) → Follows o bs ds last → replay o bs ≡ Ok last
follows_replay o last [] [] e = ap Ok e
follows_replay o last [] (d ∷ ds) f = absurd f
follows_replay o last (b ∷ bs) [] f = absurd f
follows_replay o last (b ∷ bs) (d ∷ ds) (n, x, rest) = replay-then o n b bs x.stepped ∙ follows_replay n last bs ds rest

pub follows_length : (o last : State) (bs : List Block) (ds : List RoundDelta) → Follows o bs ds last → length ds ≡ length bs
follows_length o last [] [] e = refl
follows_length o last [] (d ∷ ds) f = absurd f
follows_length o last (b ∷ bs) [] f = absurd f
follows_length o last (b ∷ bs) (d ∷ ds) (n, x, rest) = ap suc (follows_length n last bs ds rest)

follows_push : (o last next : State) (bs : List Block) (ds : List RoundDelta) (b : Block) (d : RoundDelta) → Follows o bs ds last → StepsTo last b d next → Follows o (bs ++ b ∷ []) (ds ++ d ∷ []) next
follows_push o last next [] [] b d e y = (next, subst (λ s. StepsTo s b d next) (sym e) y, refl)
follows_push o last next [] (x ∷ ds) b d f y = absurd f
follows_push o last next (x ∷ bs) [] b d f y = absurd f
follows_push o last next (x ∷ bs) (z ∷ ds) b d (n, first, rest) y = (n, first, follows_push n last next bs ds b d rest y)

-- what is known of the state after the first k blocks, over one of these totals
pub record IsAt (o : State) (t : Totals) (bs : List Block) (ds : List RoundDelta) (k : ℕ) : Type 0 where
  pub state : State
  pub replayed : replay o (take k bs) ≡ Ok state
  pub rows_are : state.rows ≡ rows_after (take k ds) o.rows
  pub level_is : state.header.level ≡ level_after (take k ds) o.header.level
  pub creators_are : (id : ℕ) → creator_of (bare state.rows) id ≡ or_below (last_creator id (take k ds)) (creator_of (bare o.rows) id)
  pub totals_are : totals_after (take k ds) t ≡ counts_in state

two_creators : (late here : Option (Option Address)) (below : Option Address) → or_below late (or_below here below) ≡ or_below (option_or late here) below
two_creators None here below = refl
two_creators (Some who) here below = refl

pub follows_at : (o last : State) (t : Totals) (bs : List Block) (ds : List RoundDelta) (k : ℕ) → t ≡ counts_in o → Follows o bs ds last → IsAt o t bs ds k
follows_at o last t bs ds zero e f = record { state = o; replayed = refl; rows_are = refl; level_is = refl; creators_are = λ id. refl; totals_are = e }
follows_at o last t [] [] (suc k) e f = record { state = o; replayed = refl; rows_are = refl; level_is = refl; creators_are = λ id. refl; totals_are = e }
follows_at o last t [] (d ∷ ds) (suc k) e f = absurd f
follows_at o last t (b ∷ bs) [] (suc k) e f = absurd f
follows_at o last t (b ∷ bs) (d ∷ ds) (suc k) e (n, x, rest) =
    let found = follows_at n last d.totals bs ds k x.totals rest in
    record {
      state = found.state;
      replayed = replay-then o n b (take k bs) x.stepped ∙ found.replayed;
      rows_are = found.rows_are ∙ ap (rows_after (take k ds)) x.rows;
      level_is = found.level_is ∙ ap (λ (h : Header). level_after (take k ds) h.level) ((after_step o n b x.stepped).0 ∙ sym x.is_of.header);
      creators_are = λ id. found.creators_are id ∙ ap (or_below (last_creator id (take k ds))) (x.creators id) ∙ two_creators (last_creator id (take k ds)) (creator_in id d.creators) (creator_of (bare o.rows) id);
      totals_are = found.totals_are;
    }

-- ---- what is held

-- the state after the blocks that are held
abbrev pub last_state : (s : States) → IsStates s → State
last_state s k = record { chain = s.before.chain; header = s.before.header; rows = rows_after s.deltas.deltas s.base; past = k.past; snaps = k.snaps }

pub led_to_last : (s : States) (k : IsStates s) → replay (held s).origin (held s).blocks ≡ Ok (last_state s k)
led_to_last s k = follows_replay (held s).origin (last_state s k) (held s).blocks s.deltas.deltas k.follows

pub states_valid : (s : States) → IsStates s → IsValid (held s).origin (held s).blocks
states_valid s k = (last_state s k, led_to_last s k)

pub states_at : (s : States) (n : ℕ) → IsStates s → IsAt (held s).origin s.deltas.totals (held s).blocks s.deltas.deltas n
states_at s n k = follows_at (held s).origin (last_state s k) s.deltas.totals (held s).blocks s.deltas.deltas n k.counted k.follows

-- the queue begins at round 0, and its last round is that of the last block
pub top_is : (s : States) → IsStates s → top s.deltas ≡ length (held s).blocks
top_is s k = (let long = follows_length (held s).origin (last_state s k) (held s).blocks s.deltas.deltas k.follows in let begins = k.begins in omega (arith, long, begins))

pub first_rounds : (s : States) (n : ℕ) → IsStates s → up_to n s.deltas ≡ take n s.deltas.deltas
first_rounds s n k = ap (λ b. take (n - b) s.deltas.deltas) k.begins ∙ ap (λ m. take m s.deltas.deltas) (let e : n - 0 ≡ n = omega arith in e)

-- ---- the block of a round

pub block_of_at : (xs : List KeptBlock) (k : ℕ) (d : KeptBlock) → k < length xs → IsBlockOf (blocks_of xs) (suc k) (get_or xs k d).block
block_of_at [] k d h = absurd (omega (arith, h))
block_of_at (x ∷ more) zero d h = ([], blocks_of more, refl, refl)
block_of_at (x ∷ more) (suc k) d h = let r = block_of_at more k d (omega (arith, h)) in (x.block ∷ r.0, r.1, ap (λ zs. x.block ∷ zs) r.2, ap suc r.3)

before : (n : ℕ) → 0 < n → suc (n - 1) ≡ n
before n h = omega (arith, h)

-- bytes that spell one block are the same
one_spelling : (a b : List ℕ) (x : Block) → IsBlock a x → IsBlock b x → a ≡ b
one_spelling a b x p q = sym (spells_only 16 (values.Map (block.write x)) a p.spells) ∙ spells_only 16 (values.Map (block.write x)) b q.spells

module _ (s : States) (k : IsStates s) (round : ℕ) (kept : KeptBlock) (some : 0 < round) (fits : round ≤ length (held s).blocks) (at : kept ≡ get_or s.kept.items (round - 1) kept) where
  short : round - 1 < length s.kept.items
  short = omega (arith, some, fits, length-map s.kept.items (λ (x : KeptBlock). x.block))

  pub kept_block : IsBlockOf (held s).blocks round kept.block
  kept_block =
      let first : IsBlockOf (held s).blocks round (get_or s.kept.items (round - 1) kept).block = subst (λ r. IsBlockOf (held s).blocks r (get_or s.kept.items (round - 1) kept).block) (before round some) (block_of_at s.kept.items (round - 1) kept short) in
      subst (λ (x : KeptBlock). IsBlockOf (held s).blocks round x.block) (sym at) first

  pub kept_spelled : IsBlock kept.bytes.items kept.block
  kept_spelled = subst (λ (x : KeptBlock). IsBlock x.bytes.items x.block) (sym at) (k.spelled (round - 1) kept short)

  -- the same bytes spell it
  pub same_spelled : (body bytes : List ℕ) → bytes ≡ kept.bytes.items → same_bytes bytes body ≡ true → IsBlock body kept.block
  same_spelled body bytes seen same = subst (λ zs. IsBlock zs kept.block) (sym seen ∙ (bytes_eq-Decides bytes body).0 same) kept_spelled

  -- other bytes do not
  pub other_spelled : (body bytes : List ℕ) → bytes ≡ kept.bytes.items → same_bytes bytes body ≡ false → IsBlock body kept.block → ⊥
  other_spelled body bytes seen differ x =
      let one : bytes ≡ body = seen ∙ one_spelling kept.bytes.items body kept.block kept_spelled x in
      let e : same_bytes bytes body ≡ true = ap (same_bytes bytes) (sym one) ∙ (bytes_eq-Decides bytes bytes).1 refl in
      absurd cc

-- ---- the step

unfoldable known : Before → List ℕ → Totals → Before
known s hash totals = record s { hash = hash; totals = totals }

-- what the next step begins with is what is known of the last state
pub before_is : (s : States) (k : IsStates s) → s.before ≡ before_of (last_state s k)
unfolding known
before_is s k = ap₂ (known s.before) k.hash_is k.totals_are

-- a creator that the block leaves as it was is the same
same_is : (before now : Option Address) → same_creator before now ≡ true → now ≡ before
same_is None None e = refl
same_is None (Some who) e = absurd cc
same_is (Some who) None e = absurd cc
same_is (Some a) (Some b) e = ap Some (sym (same_is_true a b e))

-- the creator of an id is what the block changed of it, or what it was
creator_follows : (changed : Option (Option Address)) (before now : Option Address) → changed ≡ (if same_creator before now then None else Some now) → now ≡ or_below changed before
creator_follows changed before now e = by_test (same_creator before now) refl ∙ ap (λ o. or_below o before) (sym e)
  where
    by_test : (b : Bool) → same_creator before now ≡ b → now ≡ or_below (if b then None else Some now) before
    by_test true same = same_is before now same
    by_test false other = refl

-- what a step gives over the stored rows
pub evaluates : {F : Type 0} (s : State) (b : Block) (r : Result Evaluated (EvalRefusal F)) → IsStep s b (delta_in r) → IfOk r (λ e. e.entries.items ≡ map (λ i. entry_of i.txn) b.items) → IfOk r (λ e. IsDeltaOf b.header e.delta)
    → IfOk r (λ e. IsStrictlySortedBy key_cmp (map (λ c. c.key) e.delta.changes)) → IfOk r (λ e. All (λ c. IfSome c.row (IsKept c.key)) e.delta.changes)
    → IfOk r (λ e. IsStrictlySortedBy nat_cmp (map (λ c. c.id) e.delta.creators)) → IfOk r (λ e. IsStrictlySortedBy address_cmp (map (λ c. c.address) e.delta.online)) → AreInRange b → EvaluatesTo s b r
evaluates s b (Ok e) h entries is_of ordered kept creators rising ranged = record {
  next = h.0;
  steps = record {
    stepped = h.1.stepped;
    rows = rows_follow s h.0 b e.delta is_of h.1;
    creators = λ id. creator_follows (creator_in id e.delta.creators) (creator_of (bare s.rows) id) (creator_of (bare h.0.rows) id) (h.1.creators.each id);
    totals = h.1.totals;
    is_of = is_of;
  };
  online = h.1.online;
  once = once_where_rising e.delta.online rising;
  kept = record { ordered = ordered; kept = kept; creators = creators };
  entries = entries;
  ranged = ranged;
}
evaluates s b (Err e) h entries is_of ordered kept creators rising ranged = h

-- ---- the newest rows

last_in : (ds : List RoundDelta) (d : RoundDelta) → Some d ≡ last_of ds → AllByRecursion IsKeptDelta ds → IsKeptDelta d
last_in [] d e h = absurd (let x : ◌≡◌ {A = Option RoundDelta} (Some d) None = e in cc)
last_in (x ∷ []) d e h = subst IsKeptDelta (let y : ◌≡◌ {A = Option RoundDelta} (Some d) (Some x) = e in let z : x ≡ d = cc in z) h.0
last_in (x ∷ y ∷ ds) d e h = last_in (y ∷ ds) d e h.1

-- the last changes may be kept
pub last_kept : (ds : List RoundDelta) (d : RoundDelta) → Some d ≡ last_of ds → All IsKeptDelta ds → IsKeptDelta d
last_kept ds d e h = last_in ds d e (recursion_from_All IsKeptDelta ds h)

-- other newest rows, which lack no more
pub kept_newest : (chain : Chain) (first : Header) (base newest newest2 : StoredMap) (deltas : Queue) (kept : List KeptBlock) (header : Header) (hash : List ℕ) (totals : Totals) (tail : List Entry) (memory : Memory) → IsKeeping chain first base newest deltas kept header hash totals tail memory
    → caught_up (last_of deltas.deltas) newest2 ≡ caught_up (last_of deltas.deltas) newest → IsKeeping chain first base newest2 deltas kept header hash totals tail memory
kept_newest chain first base newest newest2 deltas kept header hash totals tail memory k same = record {
  past = k.past;
  snaps = k.snaps;
  follows = k.follows;
  begins = k.begins;
  counted = k.counted;
  changes = k.changes;
  newest_is = same ∙ k.newest_is;
  hash_is = k.hash_is;
  few = k.few;
  tail_is = k.tail_is;
  sound = k.sound;
  totals_are = k.totals_are;
  online = k.online;
  spelled = k.spelled;
  ranged = k.ranged;
  since = k.since;
}

-- ---- one block more

whole : (s : State) (chain : Chain) (header : Header) (rows : StoredMap) (past : List Txn) (snaps : Snaps) → s.chain ≡ chain → s.header ≡ header → s.rows ≡ rows → s.past ≡ past → s.snaps ≡ snaps → s ≡ record { chain = chain; header = header; rows = rows; past = past; snaps = snaps }
whole s chain header rows past snaps a b c d e =
    let is : record { chain = s.chain; header = s.header; rows = s.rows; past = s.past; snaps = s.snaps } ≡ record { chain = chain; header = header; rows = rows; past = past; snaps = snaps } = cc in
    is

mapped : (items : List Item) → map (λ i. entry_of i.txn) items ≡ map entry_of (map (λ (i : Item). i.txn) items)
mapped [] = refl
mapped (i ∷ items) = ap (λ es. entry_of i.txn ∷ es) (mapped items)

ok_is : (s t : State) → ◌≡◌ {A = Result State Refusal} (Ok s) (Ok t) → s ≡ t
ok_is s t e = cc

-- with what a step from the last state gives
more : (chain : Chain) (first : Header) (base newest : StoredMap) (deltas : Queue) (kept : List KeptBlock) (header : Header) (hash : List ℕ) (totals : Totals) (tail : List Entry) (memory memory2 : Memory) (next : KeptBlock) (e : Evaluated)
    → IsKeeping chain first base newest deltas kept header hash totals tail memory → newest ≡ rows_after deltas.deltas base → Leads (record { origin = origin_of chain first base; blocks = blocks_of kept }) next.block e → IsBlock next.bytes.items next.block
    → next.block.header.round ≡ suc (length (blocks_of kept)) → memory2 ≡ and_round e.delta.header.level e.delta.online memory → last_round memory2 ≡ e.delta.round
    → IsKeeping chain first base newest (and_delta e.delta deltas) (kept ++ next ∷ []) e.delta.header e.delta.hash e.delta.totals (tail ++ map (λ i. entry_of i.txn) next.block.items) memory2
more chain first base newest deltas kept header hash totals tail memory memory2 next e k newest_is l spells round grown at =
    let b = next.block in
    let d = e.delta in
    let x : IsEvaluated l.last b e = l.evaluated in
    let o = origin_of chain first base in
    let last : State = record { chain = chain; header = header; rows = rows_after deltas.deltas base; past = k.past; snaps = k.snaps } in
    let same : l.last ≡ last = ok_is l.last last (sym l.replayed ∙ follows_replay o last (blocks_of kept) deltas.deltas k.follows) in
    let y : StepsTo last b d x.next = subst (λ s. StepsTo s b d x.next) same x.steps in
    let put_on : rows_after (deltas.deltas ++ d ∷ []) base ≡ after_delta d (rows_after deltas.deltas base) = rows_then deltas.deltas (d ∷ []) base in
    let rows : x.next.rows ≡ rows_after (deltas.deltas ++ d ∷ []) base = y.rows ∙ sym put_on in
    let after = after_step last x.next b y.stepped in
    let head : x.next.header ≡ d.header = after.0 ∙ sym y.is_of.header in
    let past = k.past ++ map (λ i. i.txn) b.items in
    let snap : Snap = snap_of d.header.level (bare (rows_after (deltas.deltas ++ d ∷ []) base)) in
    let snap_is : last_snap x.next ≡ snap = ap₂ (λ (h : Header) (m : StoredMap). snap_of h.level (bare m)) head rows in
    let snaps : Snaps = insert k.snaps (suc (length (blocks_of kept))) snap in
    let kept_snaps : x.next.snaps ≡ snaps = snaps_after last x.next b y.stepped ∙ ap₂ (insert k.snaps) round snap_is in
    let goes_on : snap ≡ next_snap d.header.level d.online (last_snap last) =
    sym snap_is ∙ x.online ∙ ap (λ (h : Header). next_snap h.level d.online (last_snap l.last)) head ∙ ap (λ (s : State). next_snap d.header.level d.online (last_snap s)) same in
    let remembered = remembers_more memory memory2 k.snaps (length (blocks_of kept)) (last_snap last) snap d.header.level d.online k.online grown (at ∙ y.is_of.round ∙ round) goes_on in
    let now = whole x.next chain d.header (rows_after (deltas.deltas ++ d ∷ []) base) past snaps after.1 head rows after.2 kept_snaps in
    let blocks : blocks_of (kept ++ next ∷ []) ≡ blocks_of kept ++ b ∷ [] = map-append (λ (y : KeptBlock). y.block) kept (next ∷ []) in
    let long : length (blocks_of (kept ++ next ∷ [])) ≡ suc (length (blocks_of kept)) = ap length blocks ∙ (let one = length-append (blocks_of kept) (b ∷ []) in omega (arith, one)) in
    let led : Follows o (blocks_of kept ++ b ∷ []) (deltas.deltas ++ d ∷ []) x.next = follows_push o last x.next (blocks_of kept) deltas.deltas b d k.follows y in
    record {
      past = past;
      snaps = snaps;
      follows = subst (λ (bs : List Block). Follows o bs (deltas.deltas ++ d ∷ []) (record { chain = chain; header = d.header; rows = rows_after (deltas.deltas ++ d ∷ []) base; past = past; snaps = snaps })) (sym blocks) (subst (Follows o (blocks_of kept ++ b ∷ []) (deltas.deltas ++ d ∷ [])) now led);
      begins = k.begins;
      counted = k.counted;
      changes = All-push IsKeptDelta deltas.deltas d k.changes x.kept;
      newest_is = ap (λ y. caught_up y newest) (last_pushed deltas.deltas d) ∙ ap (after_delta d) newest_is ∙ sym put_on;
      hash_is = y.is_of.hash ∙ ap header_hash_of (sym y.is_of.header);
      few = subst (λ (h : Header). h.counter ≤ 2 ^ 62) (sym y.is_of.header) (is_within next.bytes.items b spells).counter;
      tail_is = ap (λ es. es ++ map (λ i. entry_of i.txn) b.items) k.tail_is ∙ ap (λ es. map entry_of k.past ++ es) (mapped b.items) ∙ sym (map-append entry_of k.past (map (λ i. i.txn) b.items));
      sound = k.sound;
      totals_are = y.totals ∙ ap₂ (λ (h : Header) (m : StoredMap). counts h.level (bare m)) head rows;
      online = subst (λ n. Remembers memory2 snaps n snap) (sym long) remembered;
      spelled = All-push (λ (y : KeptBlock). IsBlock y.bytes.items y.block) kept next k.spelled spells;
      ranged = All-push (λ (y : KeptBlock). AreInRange y.block) kept next k.ranged x.ranged;
      since = k.since;
    }

pub kept_more : (chain : Chain) (first : Header) (base newest : StoredMap) (deltas deltas2 : Queue) (kept kept2 : List KeptBlock) (header header2 : Header) (hash : List ℕ) (totals : Totals) (tail tail2 : List Entry) (memory memory2 : Memory) (next : KeptBlock) (e : Evaluated)
    → IsKeeping chain first base newest deltas kept header hash totals tail memory → newest ≡ rows_after deltas.deltas base → Leads (record { origin = origin_of chain first base; blocks = blocks_of kept }) next.block e → IsBlock next.bytes.items next.block
    → deltas2 ≡ and_delta e.delta deltas → kept2 ≡ kept ++ next ∷ [] → header2 ≡ e.delta.header → tail2 ≡ tail ++ map (λ i. entry_of i.txn) next.block.items
    → next.block.header.round ≡ suc (length (blocks_of kept)) → memory2 ≡ and_round e.delta.header.level e.delta.online memory → last_round memory2 ≡ e.delta.round
    → IsKeeping chain first base newest deltas2 kept2 header2 e.delta.hash e.delta.totals tail2 memory2
kept_more chain first base newest deltas deltas2 kept kept2 header header2 hash totals tail tail2 memory memory2 next e k newest_is l spells d_is kept_is header_is tail_is round grown at =
    let x = more chain first base newest deltas kept header hash totals tail memory memory2 next e k newest_is l spells round grown at in
    let x1 = subst (λ (q : Queue). IsKeeping chain first base newest q (kept ++ next ∷ []) e.delta.header e.delta.hash e.delta.totals (tail ++ map (λ i. entry_of i.txn) next.block.items) memory2) (sym d_is) x in
    let x2 = subst (λ (ks : List KeptBlock). IsKeeping chain first base newest deltas2 ks e.delta.header e.delta.hash e.delta.totals (tail ++ map (λ i. entry_of i.txn) next.block.items) memory2) (sym kept_is) x1 in
    let x3 = subst (λ (h : Header). IsKeeping chain first base newest deltas2 kept2 h e.delta.hash e.delta.totals (tail ++ map (λ i. entry_of i.txn) next.block.items) memory2) (sym header_is) x2 in
    subst (λ (es : List Entry). IsKeeping chain first base newest deltas2 kept2 header2 e.delta.hash e.delta.totals es memory2) (sym tail_is) x3
