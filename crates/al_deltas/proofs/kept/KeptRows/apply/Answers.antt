use Rattle.std.proofs.Common.{sym}
use Rattle.al_deltas.proofs.Applied.{applied, applied_again}
use Rattle.al_deltas.proofs.kept.KeptRows.apply.Goals as goal

pub returns-clause-ok : goal.returns-clause-ok
returns-clause-ok c = applied c.args.d.now c.as_slice.result.now c.self.inside.rows c.apply.new.rows c.args.self.now c.as_slice.ensures (sym c.self.view_is) c.in_ok-apply.ensures.ok

pub returns-clause-again : goal.returns-clause-again
returns-clause-again c = applied_again c.args.d.now c.as_slice.result.now c.self.inside.rows c.apply.new.rows c.args.self.now c.as_slice.ensures (sym c.self.view_is) c.in_ok-apply.ensures.again

pub returns-in_err-apply-clause-again : goal.returns-in_err-apply-clause-again
returns-in_err-apply-clause-again c = applied_again c.args.d.now c.as_slice.result.now c.self.inside.rows c.apply.new.rows c.args.self.now c.as_slice.ensures (sym c.self.view_is) c.in_err-apply.ensures.again
