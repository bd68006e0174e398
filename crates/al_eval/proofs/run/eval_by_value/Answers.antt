use Rattle.al_eval.specs.Evaluated.{delta_in}
use Rattle.al_eval.proofs.Ends.{eval_is_step, ranged_of}
use Rattle.al_eval.proofs.run.eval_by_value.Goals as goal

pub returns-clause-sound : goal.returns-clause-sound
returns-clause-sound g c = λ t s. eval_is_step c.args.before.now c.args.tail.now (g.V.RowView.rows c.args.view) c.args.block.now (delta_in c.eval_over.new.answer) (ranged_of c.args.block.now c.as_slice.result.now c.as_slice.ensures c.numbers_fit.ensures)
    (c.eval_over.ensures.step t) (c.eval_over.ensures.created t) (c.eval_over.ensures.stakes t) (c.eval_over.ensures.totals t) s
