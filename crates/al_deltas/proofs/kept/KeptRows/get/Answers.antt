use Rattle.std.proofs.Common.{sym}
use Rattle.al_deltas.proofs.Applied.{found, found_kept}
use Rattle.al_deltas.proofs.kept.KeptRows.get.Goals as goal

pub returns-clause-row : goal.returns-clause-row
returns-clause-row c = found c.self.inside.rows c.args.self.now c.args.key.now c.row_under.result (sym c.self.view_is) c.row_under.ensures

pub returns-clause-kept : goal.returns-clause-kept
returns-clause-kept c = found_kept c.self.inside.rows c.args.key.now c.row_under.result c.self.invariant.0 c.row_under.ensures
