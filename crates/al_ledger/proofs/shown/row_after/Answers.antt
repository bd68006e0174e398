use Rattle.std.proofs.Common.{◌∙◌}
use Rattle.al_deltas.specs.Queue.{up_to}
use Rattle.al_ledger.proofs.Stands.{row_changed, row_left}
use Rattle.al_ledger.proofs.shown.row_after.Goals as goal

pub returns-in-Ok-clause-value : goal.returns-in-Ok-clause-value
returns-in-Ok-clause-value g c = λ t. c.in-Ok.ensures ∙ row_changed (up_to c.args.round c.args.deltas.now) (g.K.TableKeeper.tables c.args.tables.now.inner).rows c.args.key.now c.in-Some.field-0-0 c.in-Some.row.now c.in-Some.ensures.last

pub returns-in-None-clause-value : goal.returns-in-None-clause-value
returns-in-None-clause-value g c = λ t. row_left (up_to c.args.round c.args.deltas.now) (g.K.TableKeeper.tables c.args.tables.now.inner).rows c.args.key.now c.row_below.result c.in-None.ensures.last (c.row_below.ensures.value t)
