-- Calls of keepers in memory, some of which fail.
use Rattle.std.specs.Prelude.{ℕ, List, true, false}
use Rattle.al_base.specs.Plans.{planned}
use Rattle.al_keeper.specs.declared.calls.Calls.{Calls}

-- no call was made yet, and the calls of these numbers, counted from 1, will fail
abbrev pub calls_to : List ℕ → Calls
calls_to fails = record { plan = planned fails; mended = false }

-- from now on no call fails, and the counts stay
abbrev pub mended : Calls → Calls
mended calls = record calls { mended = true }
