-- The block of the next round with given transactions, none of which has inner ones: its header is what the step demands of it, and nobody is expired in it.
use Rattle.std.specs.Prelude.{◌<◌, ◌^◌, ℕ, ◌+◌, List, [], length}
use Rattle.al_block.specs.declared.block.Block.{Block}
use Rattle.al_block.specs.declared.header.Header.{Header}
use Rattle.al_block.specs.Hashes.{header_hash_of, payset_hash_of}
use Rattle.al_eval.specs.Pool.{rewards_due}
use Rattle.al_eval.specs.State.{State, before_of, counts_in}
use Rattle.al_rewards.specs.Totals.{all_units}
use Rattle.al_rewards.specs.declared.state.RewardsState.{RewardsState}
use Rattle.al_rows.specs.Rows.{bare}
use Rattle.al_txn.specs.declared.txn.Item.{Item}

-- the rewards that are due in the next round
abbrev pub next_due : State → RewardsState
next_due s = rewards_due (before_of s) (s.header.round + 1) (all_units (counts_in s)) (bare s.rows)

-- the header that is due, at a time in seconds
abbrev pub due_header : State → ℕ → List Item → Header
due_header s ts items = record {
  round = s.header.round + 1;
  prev = header_hash_of s.header;
  ts = ts;
  genesis_hash = s.chain.hash;
  sink = s.chain.special.sink;
  pool = s.chain.special.pool;
  level = (next_due s).level;
  rate = (next_due s).rate;
  residue = (next_due s).residue;
  recalc = (next_due s).recalc;
  counter = s.header.counter + length items;
  payset = payset_hash_of items;
  expired = [];
}

-- the block of that header and these transactions
abbrev pub due_block : State → ℕ → List Item → Block
due_block s ts items = record { header = due_header s ts items; items = items }

-- what a header says of rewards has 64 bits each
pub record RewardsFit (h : Header) : Type 0 where
  pub level : h.level < 2 ^ 64
  pub rate : h.rate < 2 ^ 64
  pub residue : h.residue < 2 ^ 64
  pub recalc : h.recalc < 2 ^ 64
