use Rattle.std.proofs.Common.{◌∙◌, ap}
use Rattle.al_deltas.specs.Queue.{rows_after}
use Rattle.al_rows.specs.Rows.{bare}
use Rattle.al_ledger.proofs.Evaluations.{evaluates, takable}
use Rattle.al_ledger.proofs.evaluating.evaluate_seen.Goals as goal

pub returns-clause-evaluates : goal.returns-clause-evaluates
returns-clause-evaluates g c = λ t s before past rows consistent.
    let e = c.eval_by_value-view.ensures in
    let shown = ap (λ ds. bare (rows_after ds.now.deltas g.N.Seen.tables.rows)) c.new-view.ensures.deltas ∙ ap bare rows in
    evaluates s c.args.block.now c.eval_by_value-view.new.answer (e.sound t s before past shown consistent) e.header e.ranged

pub returns-clause-takable : goal.returns-clause-takable
returns-clause-takable g c =
    let e = c.eval_by_value-view.ensures in
    takable c.args.block.now c.eval_by_value-view.new.answer e.entries e.header e.ordered e.kept e.creators e.online
