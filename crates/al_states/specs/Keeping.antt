-- What the states of a ledger keep: the rows at the origin, what each block changes, and the newest rows.
use Rattle.std.specs.Prelude.{◌≡◌, ◌≤◌, ◌^◌, ℕ, List, [], ◌∷◌, length, map, All, IfSome}
use Rattle.std.specs.FinMap.{get}
use Rattle.std.specs.declared.result.Result.{Result}
use Rattle.std.specs.declared.result.Result.TheVariants.{Ok, Err}
use Rattle.std.specs.declared.option.Option.{Option}
use Rattle.std.specs.declared.option.Option.TheVariants.{None, Some}
use Rattle.al_base.specs.declared.key.Key.{Key}
use Rattle.al_txn.specs.declared.chain.Chain.{Chain}
use Rattle.al_txn.specs.declared.txn.Txn.{Txn}
use Rattle.al_block.specs.declared.header.Header.{Header}
use Rattle.al_block.specs.declared.block.Block.{Block}
use Rattle.al_block.specs.Block.{IsBlock}
use Rattle.al_block.specs.Hashes.{header_hash_of}
use Rattle.al_deltas.specs.declared.delta.RoundDelta.{RoundDelta}
use Rattle.al_tables.specs.Tables.{StoredMap}
use Rattle.al_deltas.specs.Queue.{Queue, IsKeptDelta, after_delta, creator_in, last_of, rows_after}
use Rattle.al_rows.specs.Above.{IsStored}
use Rattle.al_rows.specs.Finite.{or_below}
use Rattle.al_rows.specs.Rows.{bare, creator_of}
use Rattle.al_rewards.specs.declared.totals.Totals.{Totals}
use Rattle.al_moves.specs.Totals.{counts}
use Rattle.al_online.specs.Laws.{Shows, Snaps}
use Rattle.al_online.specs.Memory.{IsEachOnce, Memory, top as last_round}
use Rattle.al_online.specs.Stakes.{Snap, next_snap}
use Rattle.al_eval.specs.Answers.{IsDeltaOf}
use Rattle.al_eval.specs.Snaps.{snap_of}
use Rattle.al_eval.specs.Start.{first_state}
use Rattle.al_eval.specs.State.{State, counts_in, last_snap, step, replay}
use Rattle.al_eval.specs.Sound.{AreInRange, IsStepRefusal, Sound}
use Rattle.al_eval.specs.Refusals.{refusal_of}
use Rattle.al_eval.specs.declared.before.EvalRefusal.{EvalRefusal}
use Rattle.al_tail.specs.Past.{entry_of}
use Rattle.al_tail.specs.declared.tail.Entry.{Entry}
use Rattle.al_eval.specs.declared.run.Evaluated.{Evaluated}
use Rattle.al_states.specs.declared.keeping.KeptBlock.{KeptBlock}
use Rattle.al_states.specs.declared.states.States.{States}
use Rattle.al_states.specs.Held.{Held}

-- the state that a ledger began with
abbrev pub origin_of : Chain → Header → StoredMap → State
origin_of chain header rows = first_state chain header rows

-- the blocks that are kept, in order
abbrev pub blocks_of : List KeptBlock → List Block
blocks_of kept = map (λ k. k.block) kept

-- a block leads from one state to the next, whose rows and creators are those before with what the block changes put over them
pub record StepsTo (s : State) (b : Block) (d : RoundDelta) (n : State) : Type 0 where
  pub stepped : step s b ≡ Ok n
  pub rows : n.rows ≡ after_delta d s.rows
  pub creators : (id : ℕ) → creator_of (bare n.rows) id ≡ or_below (creator_in id d.creators) (creator_of (bare s.rows) id)
  pub totals : d.totals ≡ counts_in n
  pub is_of : IsDeltaOf b.header d

-- each block leads from one state to the next
abbrev pub Follows : State → List Block → List RoundDelta → State → Type 0
Follows s [] [] last = s ≡ last
Follows s (b ∷ bs) (d ∷ ds) last = (n : State) × StepsTo s b d n × Follows n bs ds last
Follows s bs ds last = ⊥

-- rows with what a block changes put over them, if there is one
abbrev pub caught_up : Option RoundDelta → StoredMap → StoredMap
caught_up None m = m
caught_up (Some d) m = after_delta d m

-- a memory has each round from the start to this one as a state keeps it, and the state keeps this of the last
pub record Remembers (memory : Memory) (snaps : Snaps) (round : ℕ) (last : Snap) : Type 0 where
  pub shows : Shows memory snaps
  pub from_start : memory.base ≡ 0
  pub top_is : last_round memory ≡ round
  pub last_is : get snaps (last_round memory) ≡ Some last

-- What is kept is the states of the chain: the rows at the origin, each of which may be stored, what each block changes, what consensus may ask of each round, and what the next step begins with. The newest rows may lack what the last block changes, or a part of it: to put that once more gives the rows after the last block
pub record IsKeeping (chain : Chain) (first : Header) (base newest : StoredMap) (deltas : Queue) (kept : List KeptBlock) (header : Header) (hash : List ℕ) (totals : Totals) (tail : List Entry) (memory : Memory) : Type 0 where
  pub past : List Txn
  pub snaps : Snaps
  pub follows : Follows (origin_of chain first base) (blocks_of kept) deltas.deltas (record { chain = chain; header = header; rows = rows_after deltas.deltas base; past = past; snaps = snaps })
  pub begins : deltas.base ≡ 0
  pub counted : deltas.totals ≡ counts_in (origin_of chain first base)
  pub changes : All IsKeptDelta deltas.deltas
  pub newest_is : caught_up (last_of deltas.deltas) newest ≡ rows_after deltas.deltas base
  pub hash_is : hash ≡ header_hash_of header
  pub few : header.counter ≤ 2 ^ 62
  pub tail_is : tail ≡ map entry_of past
  pub sound : Sound (origin_of chain first base)
  pub totals_are : totals ≡ counts header.level (bare (rows_after deltas.deltas base))
  pub online : Remembers memory snaps (length (blocks_of kept)) (snap_of header.level (bare (rows_after deltas.deltas base)))
  pub spelled : All (λ k. IsBlock k.bytes.items k.block) kept
  pub ranged : All (λ k. AreInRange k.block) kept
  pub since : (key : Key) → IfSome (get base key) (IsStored key)

-- what the states of a ledger hold
abbrev pub held : States → Held
held s = record { origin = origin_of s.before.chain s.first s.base; blocks = blocks_of s.kept.items }

-- the states are those of one chain. What `States::open` gives is so, and every call keeps it
abbrev pub IsStates : States → Type 0
IsStates s = IsKeeping s.before.chain s.first s.base s.newest s.deltas s.kept.items s.before.header s.before.hash s.before.totals s.tail s.online

-- the newest rows lack nothing
abbrev pub IsNewest : States → Type 0
IsNewest s = s.newest ≡ rows_after s.deltas.deltas s.base

-- a step from a state gives what the block changes, and what is kept of its transactions
pub record IsEvaluated (s : State) (b : Block) (e : Evaluated) : Type 0 where
  pub next : State
  pub steps : StepsTo s b e.delta next
  pub online : last_snap next ≡ next_snap next.header.level e.delta.online (last_snap s)
  pub once : IsEachOnce e.delta.online
  pub kept : IsKeptDelta e.delta
  pub entries : e.entries.items ≡ map (λ i. entry_of i.txn) b.items
  pub ranged : AreInRange b

-- what a step over a state gives, or why the block is refused
abbrev pub EvaluatesTo : {F : Type 0} → State → Block → Result Evaluated (EvalRefusal F) → Type 0
EvaluatesTo s b (Ok e) = IsEvaluated s b e
EvaluatesTo s b (Err e) = IsStepRefusal s b (refusal_of e)

-- a block leads on from the state after the blocks that are held
pub record Leads (h : Held) (b : Block) (e : Evaluated) : Type 0 where
  pub last : State
  pub replayed : replay h.origin h.blocks ≡ Ok last
  pub evaluated : IsEvaluated last b e
