-- What a history of versions and levels tells of rounds.
use Rattle.std.specs.Prelude.{◌≡◌, ℕ, ◌≤◌, nat_eq, nat_le, List, [], ◌∷◌, map, filter, find, All, IsSome, option_map, ⊤}
use Rattle.std.specs.declared.option.Option.{Option}
use Rattle.std.specs.FinMap.{get}
use Rattle.al_base.specs.declared.online.LevelAt.{LevelAt}
use Rattle.al_base.specs.declared.online.OnlineChange.{OnlineChange}
use Rattle.al_base.specs.declared.online.Version.{Version}
use Rattle.al_online.specs.Laws.{Snaps}
use Rattle.al_online.specs.Stakes.{Snap, first_snap}

-- what an account became by a version
abbrev pub change_of : Version → OnlineChange
change_of v = record { address = v.address; now = v.now }

-- what an account became in a round, as a version
abbrev pub version_of : ℕ → OnlineChange → Version
version_of round c = record { address = c.address; round = round; now = c.now }

-- the versions of the rounds up to one
abbrev pub up_to : ℕ → List Version → List Version
up_to round vs = filter (λ v. nat_le v.round round) vs

-- what accounts became up to a round, in the order of the versions
abbrev pub changes_to : ℕ → List Version → List OnlineChange
changes_to round vs = map change_of (up_to round vs)

-- the level of a round, by its first entry
abbrev pub level_of : ℕ → List LevelAt → Option ℕ
level_of round ls = option_map (λ l. l.level) (find (λ l. nat_eq l.round round) ls)

-- a round of which the level is told: just those accounts are online that the versions up to it leave online
abbrev pub snap_from : List Version → List LevelAt → ℕ → Option Snap
snap_from vs ls round = option_map (λ level. first_snap level (changes_to round vs)) (level_of round ls)

-- no round is below the one before it, nor the first below this number
abbrev pub RisesFrom : ℕ → List Version → Type 0
RisesFrom n [] = ⊤
RisesFrom n (v ∷ vs) = (n ≤ v.round) × RisesFrom v.round vs

-- the rounds never fall from one version to the next
abbrev pub IsRising : List Version → Type 0
IsRising vs = RisesFrom 0 vs

-- the versions and the levels tell what a state keeps of each round from `low` up to `to`, and speak of no later round
pub record IsHistory (vs : List Version) (ls : List LevelAt) (snaps : Snaps) (low to : ℕ) : Type 0 where
  pub rising : IsRising vs
  pub below : All (λ v. v.round ≤ to) vs
  pub levels_below : All (λ l. l.round ≤ to) ls
  pub gives : (round : ℕ) → low ≤ round → round ≤ to → snap_from vs ls round ≡ get snaps round
  pub there : (round : ℕ) → low ≤ round → round ≤ to → IsSome (get snaps round)
