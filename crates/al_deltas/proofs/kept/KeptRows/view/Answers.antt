use Rattle.std.proofs.Common.{IfSome, subst}
use Rattle.al_deltas.specs.Index.{IsIndex}
use Rattle.al_deltas.proofs.Applied.{ranged_rows}
use Rattle.al_deltas.proofs.Indexes.{index_creators}
use Rattle.al_deltas.proofs.kept.KeptRows.view.Goals as goal

pub indexed-requires-clause-rows : goal.indexed-requires-clause-rows
indexed-requires-clause-rows c = ranged_rows c.self.inside.rows.entries c.self.invariant.0

pub indexed-requires-clause-creators : goal.indexed-requires-clause-creators
indexed-requires-clause-creators c = index_creators c.self.inside.rows c.in-Some.creators (subst (λ o. IfSome o (IsIndex c.self.inside.rows)) c.in-Some.is c.self.invariant.1)

pub new-requires : goal.new-requires
new-requires c = ranged_rows c.self.inside.rows.entries c.self.invariant.0
