-- What accounts have together by the Algorand ledger specification: their money with pending rewards, and their units, by status.
use Rattle.std.specs.Prelude.{ℕ, ◌+◌, ◌-◌, ◌*◌, ◌/◌, ◌^◌, ◌<◌, min}
use Rattle.std.specs.declared.option.Option.{Option}
use Rattle.std.specs.declared.option.Option.TheVariants.{None, Some}
use Rattle.al_base.specs.declared.account.Status.{Status}
use Rattle.al_base.specs.declared.account.Status.TheVariants.{Offline, Online, NotParticipating}
use Rattle.al_rewards.specs.declared.share.Share.{Share}
use Rattle.al_rewards.specs.declared.totals.Count.{Count}
use Rattle.al_rewards.specs.declared.totals.Totals.{Totals}
use Rattle.al_rewards.specs.Pending.{pending, reward_unit}

-- nothing
abbrev pub no_count : Count
no_count = record { money = 0; units = 0 }

abbrev pub no_totals : ℕ → Totals
no_totals level = record { level = level; online = no_count; offline = no_count; apart = no_count }

-- an account's money at a level, and its units
unfoldable pub count_of : ℕ → Share → Count
count_of level s = record { money = s.balance + pending level s; units = s.balance / reward_unit }

abbrev pub plus : Count → Count → Count
plus c d = record { money = c.money + d.money; units = c.units + d.units }

-- totals with a count more among those of a status
abbrev pub and_count : Totals → Status → Count → Totals
and_count t Online c = record t { online = plus t.online c }
and_count t Offline c = record t { offline = plus t.offline c }
and_count t NotParticipating c = record t { apart = plus t.apart c }

-- totals with an account more, or none
abbrev pub and_share : Totals → Option Share → Totals
and_share t None = t
and_share t (Some s) = and_count t s.status (count_of t.level s)

-- both numbers of a count are of 64 bits
abbrev pub IsCount : Count → Type 0
IsCount c = (c.money < 2 ^ 64) × (c.units < 2 ^ 64)

abbrev pub AreTotals : Totals → Type 0
AreTotals t = IsCount t.online × IsCount t.offline × IsCount t.apart

-- all units that earn
abbrev pub all_units : Totals → ℕ
all_units t = t.online.units + t.offline.units

-- at a higher level each unit has earned by how much it rose
abbrev pub earn : ℕ → Count → Count
earn rise c = record c { money = c.money + c.units * rise }

-- the totals of the same accounts at a level, where each that earns has been counted exactly
abbrev pub raised : ℕ → Totals → Totals
raised level t = record t { level = level; online = earn (level - t.level) t.online; offline = earn (level - t.level) t.offline }

-- ---- where a number would pass 64 bits

-- the number, or the greatest of 64 bits
abbrev pub capped : ℕ → ℕ
capped n = min n (2 ^ 64 - 1)

abbrev pub capped_count : Count → Count
capped_count c = record { money = capped c.money; units = capped c.units }

abbrev pub capped_totals : Totals → Totals
capped_totals t = record t { online = capped_count t.online; offline = capped_count t.offline; apart = capped_count t.apart }

-- ---- an account less

-- a count without another; what would fall below 0 is 0
abbrev pub minus : Count → Count → Count
minus c d = record { money = c.money - d.money; units = c.units - d.units }

-- totals with a count less among those of a status
abbrev pub without_count : Totals → Status → Count → Totals
without_count t Online c = record t { online = minus t.online c }
without_count t Offline c = record t { offline = minus t.offline c }
without_count t NotParticipating c = record t { apart = minus t.apart c }

-- totals with an account less, or none
abbrev pub without_share : Totals → Option Share → Totals
without_share t None = t
without_share t (Some s) = without_count t s.status (count_of t.level s)
