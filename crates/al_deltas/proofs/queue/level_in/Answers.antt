use Rattle.std.proofs.Common.{◌∙◌, List, sym, ap}
use Rattle.al_deltas.specs.declared.delta.RoundDelta.{RoundDelta}
use Rattle.al_deltas.specs.Queue.{level_after}
use Rattle.al_deltas.proofs.Queues.{level_more}
use Rattle.al_deltas.proofs.queue.level_in.Goals as goal

pub returns-in-Some : goal.returns-in-Some
returns-in-Some c =
    sym (level_more c.in-Some.field-0-1.now c.in-Some.last.now c.args.level)
    ∙ ap (λ (ds : List RoundDelta). level_after ds c.args.level) (sym c.in-Some.ensures.cases.0)
