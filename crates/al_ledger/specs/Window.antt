-- What a ledger shows: the blocks since a state of round 0, and from which rounds on rows and blocks are kept.
use Rattle.std.specs.Prelude.{◌≡◌, ◌⊎◌, ◌≤◌, ℕ, ◌+◌, List, length}
use Rattle.al_block.specs.declared.block.Block.{Block}
use Rattle.al_eval.specs.State.{State}
use Rattle.al_states.specs.Held.{Held}

pub record Window : Type 0 where
  -- the state of round 0
  pub origin : State
  -- the blocks since
  pub blocks : List Block
  -- the first round whose block is kept
  pub first : ℕ
  -- the round of the tables: rows, creators and money are shown from it on
  pub floor : ℕ
  -- the floor when the ledger was opened
  pub opened : ℕ

-- the last round
abbrev pub front_of : Window → ℕ
front_of w = length w.blocks

-- the state of round 0 and the blocks since
abbrev pub held_of : Window → Held
held_of w = record { origin = w.origin; blocks = w.blocks }

-- the floor is that of the opening, or at least four rounds below the front
abbrev pub IsFloor : Window → Type 0
IsFloor w = (w.floor ≡ w.opened) ⊎ (w.floor + 4 ≤ front_of w)
