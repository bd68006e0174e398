-- For each account the greatest round of a version that every round from 320 below the new one on sees.
use Rattle.std.specs.Prelude.{◌≡◌, ℕ, ◌+◌, nat_le, nat_lt, not, List, Bool, true, false}
use Rattle.std.specs.declared.option.Option.{Option}
use Rattle.std.specs.declared.option.Option.TheVariants.{None, Some}
use Rattle.std.specs.BTreeMap.{BTreeMap, is_at}
use Rattle.std.specs.Map.{lookup}
use Rattle.std.specs.List.{list_any}
use Rattle.al_base.specs.declared.address.Address.{Address}
use Rattle.al_base.specs.declared.online.Version.{Version}
use Rattle.al_base.specs.Keys.{address_cmp}
use Rattle.al_tables.specs.Tables.{replaces}

-- a round under each address
abbrev pub NewestTree : Type 0
NewestTree = BTreeMap Address ℕ

-- the round under an address
abbrev pub newest_at : NewestTree → Address → Option ℕ
newest_at m a = lookup (is_at (address_cmp a)) m.entries

-- a round is there, and this one is below it
abbrev pub is_below : Option ℕ → ℕ → Bool
is_below None round = false
is_below (Some n) round = nat_lt round n

-- a version is below what stands under its address
abbrev pub is_outdated : NewestTree → Version → Bool
is_outdated m v = is_below (newest_at m v.address) v.round

-- nothing under its address replaces a version
abbrev pub is_current : NewestTree → Version → Bool
is_current m v = not (is_outdated m v)

-- no round is there, or this one is above it
abbrev pub is_over : Option ℕ → ℕ → Bool
is_over None round = true
is_over (Some n) round = nat_lt n round

-- a version is above what stands under its address
abbrev pub is_newer : NewestTree → Version → Bool
is_newer m v = is_over (newest_at m v.address) v.round

-- every round from `to` - 320 on sees a version of this round
abbrev pub is_settled : ℕ → Version → Bool
is_settled to v = nat_le (v.round + 320) to

-- exactly those versions are outdated that one of these replaces
abbrev pub Outdates : ℕ → List Version → NewestTree → Type 0
Outdates to vs m = (v : Version) → is_outdated m v ≡ list_any (replaces to v) vs
