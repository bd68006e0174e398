use Rattle.al_deltas.specs.Net.{creators_after}
use Rattle.al_deltas.specs.Queue.{rows_after}
use Rattle.al_ledger.specs.Creators.{agrees}
use Rattle.al_ledger.proofs.Creators.{agreed, agreeing, and_second, and_true}
use Rattle.al_ledger.proofs.evaluating.evaluate.Goals as goal

pub evaluate_seen-requires-clause-creators : goal.evaluate_seen-requires-clause-creators
evaluate_seen-requires-clause-creators g c = λ t.
    let tables = g.K.TableKeeper.tables c.args.tables.now.inner in
    let rows = rows_after c.args.recent.now.deltas.deltas tables.rows in
    let creators = creators_after c.args.recent.now.deltas.deltas tables.creators in
    agreed rows creators (and_second g.K.TableKeeper.tells (agrees rows creators) t)

pub returns-clause-evaluates : goal.returns-clause-evaluates
returns-clause-evaluates g c = λ t are.
    let tables = g.K.TableKeeper.tables c.args.tables.now.inner in
    let rows = rows_after c.args.recent.now.deltas.deltas tables.rows in
    let creators = creators_after c.args.recent.now.deltas.deltas tables.creators in
    c.evaluate_seen.ensures.evaluates (and_true g.K.TableKeeper.tells (agrees rows creators) t (agreeing rows creators are))
