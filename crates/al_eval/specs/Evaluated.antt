-- What a step gives beside what is kept of the transactions.
use Rattle.std.specs.declared.result.Result.{Result}
use Rattle.std.specs.declared.result.Result.TheVariants.{Ok, Err}
use Rattle.al_deltas.specs.declared.delta.RoundDelta.{RoundDelta}
use Rattle.al_eval.specs.declared.before.EvalRefusal.{EvalRefusal}
use Rattle.al_eval.specs.declared.run.Evaluated.{Evaluated}

abbrev pub delta_in : {F : Type 0} → Result Evaluated (EvalRefusal F) → Result RoundDelta (EvalRefusal F)
delta_in (Ok e) = Ok e.delta
delta_in (Err e) = Err e
