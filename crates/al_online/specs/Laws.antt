-- What a memory shows of a state, and that it goes on to.
use Rattle.std.specs.Prelude.{◌≡◌, ℕ, suc, ◌≤◌, ◌<◌, List}
use Rattle.std.specs.Ordering.{nat_cmp}
use Rattle.std.specs.declared.option.Option.TheVariants.{Some}
use Rattle.std.specs.FinMap.{FinMap, get, insert}
use Rattle.al_base.specs.declared.online.OnlineChange.{OnlineChange}
use Rattle.al_online.specs.Memory.{Memory, and_round, from_round, snap_at, top, without_last}
use Rattle.al_online.specs.Stakes.{Snap, next_snap}

-- what a state keeps of its rounds
abbrev pub Snaps : Type 0
Snaps = FinMap nat_cmp Snap

-- each round of the memory is as the state keeps it
abbrev pub Shows : Memory → Snaps → Type 0
Shows m snaps = (round : ℕ) → m.base ≤ round → round ≤ top m → snap_at m round ≡ get snaps round

-- one more round on both sides
abbrev pub ShowsNext : Type 0
ShowsNext = (m : Memory) (snaps : Snaps) (level : ℕ) (cs : List OnlineChange) (last : Snap) → Shows m snaps → get snaps (top m) ≡ Some last → Shows (and_round level cs m) (insert snaps (suc (top m)) (next_snap level cs last))

-- the last round less
abbrev pub ShowsBefore : Type 0
ShowsBefore = (m : Memory) (snaps : Snaps) → Shows m snaps → m.base < top m → Shows (without_last m) snaps

-- fewer rounds
abbrev pub ShowsFrom : Type 0
ShowsFrom = (m : Memory) (snaps : Snaps) (round : ℕ) → Shows m snaps → m.base ≤ round → round ≤ top m → Shows (from_round round m) snaps
