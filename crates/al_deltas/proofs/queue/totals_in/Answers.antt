use Rattle.std.proofs.Common.{◌∙◌, List, sym, ap}
use Rattle.al_deltas.specs.declared.delta.RoundDelta.{RoundDelta}
use Rattle.al_deltas.specs.Queue.{totals_after}
use Rattle.al_deltas.proofs.Queues.{totals_more}
use Rattle.al_deltas.proofs.queue.totals_in.Goals as goal

pub returns-in-Some : goal.returns-in-Some
returns-in-Some c =
    sym (totals_more c.in-Some.field-0-1.now c.in-Some.last.now c.args.totals.now)
    ∙ ap (λ (ds : List RoundDelta). totals_after ds c.args.totals.now) (sym c.in-Some.ensures.cases.0)
