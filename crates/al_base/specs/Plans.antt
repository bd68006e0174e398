-- Objects in memory, some of whose calls fail.
use Rattle.std.specs.Prelude.{ℕ, ◌+◌, ◌-◌, ◌^◌, min, List, Bool, if◌then◌else◌}
use Rattle.al_base.specs.declared.plan.Plan.{Plan}

-- one more, or a u64's greatest value
abbrev pub counted : ℕ → ℕ
counted n = min (n + 1) (2 ^ 64 - 1)

-- one more where a call failed
abbrev pub counted_if : Bool → ℕ → ℕ
counted_if failed n = if failed then counted n else n

-- no call was made yet, and the calls of these numbers, counted from 1, will fail
abbrev pub planned : List ℕ → Plan
planned fails = record { fails = fails; calls = 0; faults = 0 }

-- after one more call, which failed or did not
abbrev pub called : Bool → Plan → Plan
called failed plan = record plan { calls = counted plan.calls; faults = counted_if failed plan.faults }
