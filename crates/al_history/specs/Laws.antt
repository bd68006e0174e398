-- How a history goes on with the rounds of a state.
use Rattle.std.specs.Prelude.{◌≡◌, ℕ, suc, ◌-◌, ◌≤◌, max, List, [], ◌∷◌, ◌++◌, map}
use Rattle.std.specs.declared.option.Option.TheVariants.{Some}
use Rattle.std.specs.FinMap.{empty, get, insert}
use Rattle.al_base.specs.declared.online.LevelAt.{LevelAt}
use Rattle.al_base.specs.declared.online.OnlineChange.{OnlineChange}
use Rattle.al_base.specs.declared.online.Version.{Version}
use Rattle.al_online.specs.Laws.{Snaps}
use Rattle.al_online.specs.Stakes.{Snap, first_snap, next_snap}
use Rattle.al_tables.specs.Tables.{kept_levels, kept_versions}
use Rattle.al_history.specs.History.{IsHistory, version_of}

-- round 0 alone
abbrev pub HistoryBegins : Type 0
HistoryBegins = (level : ℕ) (cs : List OnlineChange) → IsHistory (map (version_of 0) cs) (record { round = 0; level = level } ∷ []) (insert empty 0 (first_snap level cs)) 0 0

-- one round more on both sides
abbrev pub HistoryGrows : Type 0
HistoryGrows =
    (vs : List Version) (ls : List LevelAt) (snaps : Snaps) (low to level : ℕ) (cs : List OnlineChange) (last : Snap)
    → IsHistory vs ls snaps low to → low ≤ to → get snaps to ≡ Some last
    → IsHistory (vs ++ map (version_of (suc to)) cs) (ls ++ record { round = suc to; level = level } ∷ []) (insert snaps (suc to) (next_snap level cs last)) low (suc to)

-- without the versions and the levels that no round from `to` - 320 on needs
abbrev pub HistoryIsPruned : Type 0
HistoryIsPruned = (vs : List Version) (ls : List LevelAt) (snaps : Snaps) (low to : ℕ) → IsHistory vs ls snaps low to → IsHistory (kept_versions to vs) (kept_levels to ls) snaps (max low (to - 320)) to

-- fewer rounds
abbrev pub HistoryShrinks : Type 0
HistoryShrinks = (vs : List Version) (ls : List LevelAt) (snaps : Snaps) (low low2 to : ℕ) → IsHistory vs ls snaps low to → low ≤ low2 → IsHistory vs ls snaps low2 to
