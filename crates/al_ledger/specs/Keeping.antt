-- What a ledger keeps: the tables of a round, the blocks from a round on, and in memory what the blocks above the tables change.
use Rattle.std.specs.Prelude.{◌≡◌, ◌≤◌, ◌<◌, ◌-◌, ℕ, suc, List, ◌++◌, length, map, drop, max, All}
use Rattle.std.specs.FinMap.{get}
use Rattle.std.specs.declared.result.Result.TheVariants.{Ok}
use Rattle.std.specs.declared.option.Option.TheVariants.{Some}
use Rattle.al_block.specs.declared.block.Block.{Block}
use Rattle.al_block.specs.Block.{IsBlock}
use Rattle.al_deltas.specs.Queue.{IsQueue}
use Rattle.al_eval.specs.Sound.{AreInRange, Sound}
use Rattle.al_eval.specs.State.{State, before_of, counts_in, last_snap, replay}
use Rattle.al_history.specs.History.{IsHistory}
use Rattle.al_keeper.specs.Blocks.{Blocks}
use Rattle.al_online.specs.Laws.{Shows, Snaps}
use Rattle.al_online.specs.Memory.{Memory, top as last_round}
use Rattle.al_online.specs.Stakes.{Snap}
use Rattle.al_ledger.specs.Steps.{Follows}
use Rattle.al_states.specs.Spellings.{block_string}
use Rattle.al_tables.specs.Tables.{Tables}
use Rattle.al_tail.specs.Past.{entry_of, live}
use Rattle.al_ledger.specs.declared.recent.Recent.{Recent}
use Rattle.al_ledger.specs.Creators.{AreCreatorsOf}
use Rattle.al_ledger.specs.Window.{IsFloor, Window, front_of}

-- a memory has the rounds up to this one that consensus may ask of, as a state keeps them, and the state keeps this of the last
pub record Recalls (memory : Memory) (snaps : Snaps) (round : ℕ) (last : Snap) : Type 0 where
  pub shows : Shows memory snaps
  pub base_is : memory.base ≤ round - 320
  pub top_is : last_round memory ≡ round
  pub last_is : get snaps (last_round memory) ≡ Some last

-- the blocks that are kept
abbrev pub kept_of : Window → List Block
kept_of w = drop (w.first - 1) w.blocks

-- the first round whose block the tables of a round need: their next thousand rounds know each transaction that may not stand in them again
abbrev pub needed : ℕ → ℕ
needed round = max 1 (round - 999)

-- the keeper of blocks has the spellings of the blocks from a round on that the tables need
pub record KeepsBlocks (w : Window) (kept : Blocks) : Type 0 where
  pub first_is : 0 < length kept.list → kept.first ≡ w.first
  pub list_is : kept.list ≡ map block_string (kept_of w)
  pub from_one : 1 ≤ w.first
  pub to_front : w.first ≤ suc (front_of w)
  pub enough : w.first ≤ needed w.floor

-- the tables are those of a state: its rows, its creators, and what it keeps of the rounds that consensus may ask of
pub record KeepsTables (round : ℕ) (s : State) (tables : Tables) : Type 0 where
  pub round_is : tables.round ≡ Some round
  pub rows_are : tables.rows ≡ s.rows
  pub creators_are : AreCreatorsOf s.rows tables.creators
  pub history_is : IsHistory tables.history tables.levels s.snaps (round - 320) round

-- What a ledger keeps is that of one chain: the tables are those of the state after the flushed blocks, the queue has what each block since changes, and in memory is what the next step begins with and what consensus may ask of the last rounds
pub record IsLedger (w : Window) (tables : Tables) (kept : Blocks) (r : Recent) : Type 0 where
  pub flushed : List Block
  pub since : List Block
  pub middle : State
  pub last : State
  pub blocks_are : w.blocks ≡ flushed ++ since
  pub led : replay w.origin flushed ≡ Ok middle
  pub follows : Follows middle since r.deltas.deltas last
  pub floor_is : w.floor ≡ length flushed
  pub begins : r.deltas.base ≡ length flushed
  pub counted : r.deltas.totals ≡ counts_in middle
  pub tables_are : KeepsTables (length flushed) middle tables
  pub before_is : r.before ≡ before_of last
  pub tail_is : live (suc (front_of w)) r.tail ≡ live (suc (front_of w)) (map entry_of last.past)
  pub recalls : Recalls r.online last.snaps (front_of w) (last_snap last)
  pub kept_are : KeepsBlocks w kept
  pub floor_fits : IsFloor w
  pub opened_is : w.opened ≤ w.floor
  pub zero_is : w.origin.header.round ≡ 0
  pub sound : Sound w.origin
  pub queue_is : IsQueue r.deltas
  pub keeps_last : get middle.snaps (length flushed) ≡ Some (last_snap middle)
  pub ranged : All AreInRange w.blocks
  pub spelled : All (λ b. IsBlock (block_string b) b) w.blocks
