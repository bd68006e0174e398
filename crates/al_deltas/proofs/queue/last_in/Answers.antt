use Rattle.std.proofs.Common.{◌∙◌, List, sym, ap}
use Rattle.al_deltas.specs.declared.delta.RoundDelta.{RoundDelta}
use Rattle.al_deltas.specs.Queue.{last_of}
use Rattle.al_deltas.proofs.Queues.{last_pushed}
use Rattle.al_deltas.proofs.queue.last_in.Goals as goal

pub returns-in-Some : goal.returns-in-Some
returns-in-Some c = sym (last_pushed c.in-Some.field-0-1.now c.in-Some.last.now) ∙ ap (λ (ds : List RoundDelta). last_of ds) (sym c.in-Some.ensures.cases.0)
