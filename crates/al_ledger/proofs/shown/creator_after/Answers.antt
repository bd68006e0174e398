use Rattle.al_deltas.specs.Queue.{up_to}
use Rattle.al_ledger.proofs.Stands.{creator_changed, creator_left}
use Rattle.al_ledger.proofs.shown.creator_after.Goals as goal

pub returns-in-Some-clause-value : goal.returns-in-Some-clause-value
returns-in-Some-clause-value g c = λ t. creator_changed (up_to c.args.round c.args.deltas.now) (g.K.TableKeeper.tables c.args.tables.now.inner).creators c.args.id c.in-Some.who c.in-Some.ensures

pub returns-in-None-clause-value : goal.returns-in-None-clause-value
returns-in-None-clause-value g c = λ t. creator_left (up_to c.args.round c.args.deltas.now) (g.K.TableKeeper.tables c.args.tables.now.inner).creators c.args.id c.creator_below.result c.in-None.ensures (c.creator_below.ensures.value t)
