use Rattle.al_eval.proofs.Onlines.{start_keeps_last, step_keeps_last}
use Rattle.al_eval.proofs.laws.snaps_are_kept.Goals as goal

pub returns : goal.returns
returns c = record { start = start_keeps_last; step = step_keeps_last }
