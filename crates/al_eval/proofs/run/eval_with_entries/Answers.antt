use Rattle.std.proofs.Common.{subst, List}
use Rattle.al_txn.specs.declared.txn.Item.{Item}
use Rattle.al_eval.specs.Evaluated.{delta_in}
use Rattle.al_eval.specs.Sound.{AreInRange}
use Rattle.al_eval.proofs.Ends.{eval_is_step, ranged_of}
use Rattle.al_eval.proofs.run.eval_with_entries.Goals as goal

pub returns-clause-sound : goal.returns-clause-sound
returns-clause-sound g c = λ t s. eval_is_step c.args.before.now c.args.tail.now (g.V.RowView.rows c.args.view.now) c.args.block.now (delta_in c.eval_over-lent.new.answer) (ranged_of c.args.block.now c.as_slice.result.now c.as_slice.ensures c.numbers_fit.ensures)
    (c.eval_over-lent.ensures.step t) (c.eval_over-lent.ensures.created t) (c.eval_over-lent.ensures.stakes t) (c.eval_over-lent.ensures.totals t) s
