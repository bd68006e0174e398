-- What a keeper's call may answer, by what it counted.
use Rattle.std.specs.Prelude.{ℕ, ◌≤◌, ⊤}
use Rattle.std.specs.declared.result.Result.{Result}
use Rattle.std.specs.declared.result.Result.TheVariants.{Ok, Err}
use Rattle.al_base.specs.Causes.{Rose}
use Rattle.al_keeper.specs.declared.fault.KeepFault.{KeepFault}
use Rattle.al_keeper.specs.declared.fault.KeepFault.TheVariants.{Failed, Memory}

-- this holds where the fault is a failure
abbrev pub WhereFailed : KeepFault → Type 0 → Type 0
WhereFailed Failed fact = fact
WhereFailed Memory fact = ⊤

-- the count rose where the call failed
abbrev pub CauseOf : {T : Type 0} → ℕ → ℕ → Result T KeepFault → Type 0
CauseOf before now (Ok x) = ⊤
CauseOf before now (Err e) = WhereFailed e (Rose before now)

-- a keeper's count never falls, and rose where the call failed
pub record HasFault {T : Type 0} (before now : ℕ) (result : Result T KeepFault) : Type 0 where
  pub later : before ≤ now
  pub failed : CauseOf before now result
