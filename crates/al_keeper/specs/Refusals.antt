-- What a counted keeper's call may answer, by what the keeper counted.
use Rattle.std.specs.Prelude.{◌≡◌, ℕ, ◌≤◌}
use Rattle.std.specs.declared.result.Result.{Result}
use Rattle.std.specs.declared.result.Result.TheVariants.{Err}
use Rattle.al_base.specs.Causes.{Rose}

-- a keeper's count never falls, and rose where the call gave a fault
pub record HasRefusal {T E F : Type 0} (refusal : F → E) (before now : ℕ) (result : Result T E) : Type 0 where
  pub later : before ≤ now
  pub failed : (f : F) → result ≡ Err (refusal f) → Rose before now
