-- What a ledger holds: the state that it began with, and the blocks that it accepted since.
use Rattle.std.specs.Prelude.{◌≡◌, ℕ, List, take, Ok}
use Rattle.al_block.specs.declared.block.Block.{Block}
use Rattle.al_moves.specs.Money.{money}
use Rattle.al_rows.specs.Rows.{bare}
use Rattle.al_eval.specs.Sound.{Apart}
use Rattle.al_eval.specs.State.{State, replay}

-- the state at the origin, and the blocks since
pub record Held : Type 0 where
  pub origin : State
  pub blocks : List Block

-- no block is refused
abbrev pub IsValid : State → List Block → Type 0
IsValid o blocks = (s : State) × (replay o blocks ≡ Ok s)

-- each state that the blocks lead through is apart
abbrev pub AreApart : Held → Type 0
AreApart h = (n : ℕ) (s : State) → replay h.origin (take n h.blocks) ≡ Ok s → Apart s

-- the money of all accounts, in microAlgos
abbrev pub money_in : State → ℕ
money_in s = money s.header.level (bare s.rows)

-- no block makes or loses money
abbrev pub KeepsMoney : Held → Type 0
KeepsMoney h = (n : ℕ) (s : State) → replay h.origin (take n h.blocks) ≡ Ok s → money_in s ≡ money_in h.origin
