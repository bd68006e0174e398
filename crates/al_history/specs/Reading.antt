-- How a history is read, round by round.
use Rattle.std.specs.Prelude.{◌≡◌, ℕ, nat_le, not, Bool, List, filter}
use Rattle.std.specs.declared.option.Option.{Option}
use Rattle.std.specs.FinMap.{get}
use Rattle.al_base.specs.declared.address.Address.{Address}
use Rattle.al_base.specs.declared.online.OnlineChange.{OnlineChange}
use Rattle.al_base.specs.declared.online.OnlineData.{OnlineData}
use Rattle.al_base.specs.declared.online.Version.{Version}
use Rattle.al_online.specs.Laws.{Shows, Snaps}
use Rattle.al_online.specs.Memory.{Memory, top}
use Rattle.al_online.specs.Stakes.{OnlineMap, with_changes}
use Rattle.al_rows.specs.Finite.{or_below}

-- a version is of a round up to this one
abbrev pub is_up_to : ℕ → Version → Bool
is_up_to round v = nat_le v.round round

-- the versions of the rounds above one
abbrev pub above : ℕ → List Version → List Version
above round vs = filter (λ v. not (is_up_to round v)) vs

-- a memory shows the rounds of a state, and these versions of the rounds above its top are still to come
pub record IsReadTo (vs : List Version) (snaps : Snaps) (rest : List Version) (m : Memory) : Type 0 where
  pub later : rest ≡ above (top m) vs
  pub shown : Shows m snaps

-- a change as a pair
abbrev pub pair_of : OnlineChange → Address × Option OnlineData
pair_of c = (c.address, c.now)

-- what accounts have become by changes, one after another
abbrev pub AreLatest : List OnlineChange → (Address → Option (Option OnlineData)) → Type 0
AreLatest cs latest = (m : OnlineMap) (who : Address) → get (with_changes cs m) who ≡ or_below (latest who) (get m who)

-- these changes come to the same as those
abbrev pub ComeToSame : List OnlineChange → List OnlineChange → Type 0
ComeToSame cs ds = (m : OnlineMap) → with_changes cs m ≡ with_changes ds m
