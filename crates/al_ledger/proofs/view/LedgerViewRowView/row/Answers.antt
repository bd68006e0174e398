use Rattle.std.proofs.Common.{ap}
use Rattle.al_tables.specs.Tables.{Tables}
use Rattle.al_ledger.proofs.Stands.{row_on_top}
use Rattle.al_ledger.proofs.view.LedgerViewRowView.row.Goals as goal

pub returns-clause-value : goal.returns-clause-value
returns-clause-value g c = λ t.
    let v = c.args.self.now in
    let tells = v.told t in
    row_on_top v.deltas.now c.top-top.result g.N.Seen.tables.rows (g.K.TableKeeper.tables v.tables.now.inner).rows c.args.key.now c.row_after.result c.top-top.ensures.value (ap (λ (x : Tables). x.rows) (v.same tells)) (c.row_after.ensures.value tells)
