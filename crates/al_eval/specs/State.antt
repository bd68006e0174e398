-- The ledger's state, the step of a block over it, and the replay of blocks.
use Rattle.std.specs.Prelude.{◌≡◌, ℕ, List, [], ◌∷◌, ◌++◌, map, take, if◌then◌else◌}
use Rattle.std.specs.declared.option.Option.{Option}
use Rattle.std.specs.declared.option.Option.TheVariants.{None, Some}
use Rattle.std.specs.declared.result.Result.{Result}
use Rattle.std.specs.declared.result.Result.TheVariants.{Ok, Err}
use Rattle.std.specs.FinMap.{FinMap, get, insert}
use Rattle.al_base.specs.declared.key.Key.{Key}
use Rattle.al_base.specs.Keys.{key_cmp}
use Rattle.al_block.specs.declared.header.Header.{Header}
use Rattle.al_block.specs.declared.block.Block.{Block}
use Rattle.al_block.specs.Hashes.{header_hash_of}
use Rattle.al_rows.specs.declared.row.Row.{Row}
use Rattle.al_rows.specs.declared.stored.Stored.{Stored}
use Rattle.al_rows.specs.Finite.{map_entries, overlaid}
use Rattle.al_rows.specs.Rows.{RowMap, bare, row_eq}
use Rattle.al_rewards.specs.declared.totals.Totals.{Totals}
use Rattle.al_rewards.specs.Totals.{all_units}
use Rattle.al_txn.specs.declared.chain.Chain.{Chain}
use Rattle.al_txn.specs.declared.txn.Txn.{Txn}
use Rattle.al_overlay.specs.Rules.{then_do}
use Rattle.al_moves.specs.Changes.{AreChanges}
use Rattle.al_moves.specs.Totals.{counts}
use Rattle.al_online.specs.Laws.{Snaps}
use Rattle.al_online.specs.Stakes.{Snap}
use Rattle.al_eval.specs.declared.before.Before.{Before}
use Rattle.al_tail.specs.Past.{entry_of}
use Rattle.al_eval.specs.Refusals.{Refusal}
use Rattle.al_eval.specs.Snaps.{snap_of}
use Rattle.al_eval.specs.Steps.{block_rows}

-- what is fixed of the chain, the header of the last block, the rows with the rounds that changed them last, all transactions so far in order, and what consensus may ask of each round
pub record State : Type 0 where
  pub chain : Chain
  pub header : Header
  pub rows : FinMap key_cmp Stored
  pub past : List Txn
  pub snaps : Snaps

-- the money and the units of all accounts, added up over all rows at the level of the last block
abbrev pub counts_in : State → Totals
counts_in s = counts s.header.level (bare s.rows)

abbrev pub before_of : State → Before
before_of s = record { chain = s.chain; header = s.header; hash = header_hash_of s.header; totals = counts_in s }

-- the round of the last block after which the row differed from before that block
abbrev pub stamp : ℕ → Option Stored → Row → ℕ
stamp round None row = round
stamp round (Some s) row = if row_eq s.row row then s.changed else round

abbrev pub stamped : ℕ → FinMap key_cmp Stored → RowMap → FinMap key_cmp Stored
stamped round old now = map_entries (λ k r. record { row = r; changed = stamp round (get old k) r }) now

-- the state after a block with these rows
abbrev pub after : State → Block → RowMap → State
after s b m = record s {
  header = b.header;
  rows = stamped b.header.round s.rows m;
  past = s.past ++ map (λ i. i.txn) b.items;
  snaps = insert s.snaps b.header.round (snap_of b.header.level m);
}

-- the step of a block: a new state, or the first refusal
unfoldable pub step : State → Block → Result State Refusal
step s b = then_do (block_rows (before_of s) (all_units (counts_in s)) (map entry_of s.past) b (bare s.rows)) (λ m. Ok (after s b m))

-- one block after another
abbrev pub replay : State → List Block → Result State Refusal
replay s [] = Ok s
replay s (b ∷ bs) = then_do (step s b) (λ t. replay t bs)

-- the row under a key in a state
abbrev pub row_in : Key → Result State Refusal → Option Stored
row_in key (Ok s) = get s.rows key
row_in key (Err r) = None

-- the row under a key after the first n blocks
abbrev pub row_at : State → List Block → ℕ → Key → Option Stored
row_at s bs n key = row_in key (replay s (take n bs))

-- the reward level of a state
abbrev pub level_in : Result State Refusal → ℕ
level_in (Ok s) = s.header.level
level_in (Err r) = 0

-- the reward level after the first n blocks
abbrev pub level_at : State → List Block → ℕ → ℕ
level_at s bs n = level_in (replay s (take n bs))

-- what consensus may ask of the last round, by the rows of a state
abbrev pub last_snap : State → Snap
last_snap s = snap_of s.header.level (bare s.rows)

-- a state keeps that of its last round
abbrev pub KeepsLast : State → Type 0
KeepsLast s = get s.snaps s.header.round ≡ Some (last_snap s)

-- ---- laws

-- each state after a block keeps what consensus may ask of its round
abbrev pub StepKeepsLast : Type 0
StepKeepsLast = (s t : State) (b : Block) → step s b ≡ Ok t → KeepsLast t

-- what a block changes, put over the rows before, gives the rows after
abbrev pub ChangesLead : Type 0
ChangesLead = (m n : RowMap) (cs : List (Key × Option Row)) → AreChanges m n cs → overlaid cs m ≡ n
