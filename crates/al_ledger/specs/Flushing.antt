-- How the tables follow the chain: at least four rounds behind the front, by at most 256 rounds at once, and never past a round whose rows a catchpoint has.
use Rattle.std.specs.Prelude.{◌≡◌, ◌≤◌, ◌<◌, ◌+◌, ◌*◌, ◌-◌, ℕ, min, ⊤}
use Rattle.std.specs.declared.option.Option.{Option}
use Rattle.std.specs.declared.option.Option.TheVariants.{None, Some}
use Rattle.std.specs.declared.result.Result.{Result}
use Rattle.std.specs.declared.result.Result.TheVariants.{Ok, Err}
use Rattle.al_base.specs.Causes.{Rose}
use Rattle.al_keeper.specs.Blocks.{Blocks}
use Rattle.al_tables.specs.Tables.{Tables}
use Rattle.al_ledger.specs.declared.flushing.Flushed.{Flushed}
use Rattle.al_ledger.specs.declared.flushing.FlushRefusal.{FlushRefusal}
use Rattle.al_ledger.specs.declared.flushing.FlushRefusal.TheVariants as refusals
use Rattle.al_ledger.specs.declared.recent.Recent.{Recent}
use Rattle.al_ledger.specs.Keeping.{IsLedger}
use Rattle.al_ledger.specs.Window.{Window}

-- a catchpoint has the rows of this round: the round 320 above is a multiple of the interval
abbrev pub IsDataRound : ℕ → ℕ → Type 0
IsDataRound interval round = (1 ≤ round) × (1 ≤ interval) × ((k : ℕ) × (round + 320 ≡ k * interval))

-- the least such round above another, none where there is none
abbrev pub IsNextDataRound : ℕ → ℕ → Option ℕ → Type 0
IsNextDataRound interval floor None = (round : ℕ) → IsDataRound interval round → ⊥
IsNextDataRound interval floor (Some round) = IsDataRound interval round × (floor < round) × ((other : ℕ) → IsDataRound interval other → floor < other → round ≤ other)

-- the least of what may be
abbrev pub target_of : ℕ → ℕ → Option ℕ → ℕ
target_of floor front None = min (front - 4) (floor + 256)
target_of floor front (Some round) = min round (min (front - 4) (floor + 256))

-- the round to flush to
abbrev pub IsTarget : ℕ → ℕ → ℕ → ℕ → Type 0
IsTarget interval floor front to = (round : Option ℕ) × IsNextDataRound interval floor round × (to ≡ target_of floor front round)

-- the window with its floor at a round
abbrev pub with_floor : ℕ → Window → Window
with_floor to w = record w { floor = to }

-- the floor is this round afterwards, or as before
abbrev pub Moves : {F : Type 0} → ℕ → Window → Window → Result Flushed (FlushRefusal F) → Type 0
Moves to before after (Ok f) = (f ≡ record { from = before.floor; to = to }) × (after ≡ with_floor to before)
Moves to before after (Err (refusals.Keeper fault)) = after ≡ before
Moves to before after (Err (refusals.NothingToFlush front floor)) = ⊥
Moves to before after (Err refusals.Memory) = after ≡ before

-- what is kept afterwards is a ledger of that window
abbrev pub MovesTo : {F : Type 0} → ℕ → Window → Tables → Blocks → Recent → Result Flushed (FlushRefusal F) → Type 0
MovesTo to w tables kept r result = (after : Window) × IsLedger after tables kept r × Moves to w after result

-- the keeper's count rose where it failed
abbrev pub FlushCause : {F : Type 0} → ℕ → ℕ → Result Flushed (FlushRefusal F) → Type 0
FlushCause before now (Err (refusals.Keeper fault)) = Rose before now
FlushCause before now r = ⊤

pub record HasFlushCause {F : Type 0} (before now : ℕ) (result : Result Flushed (FlushRefusal F)) : Type 0 where
  pub later : before ≤ now
  pub failed : FlushCause before now result
