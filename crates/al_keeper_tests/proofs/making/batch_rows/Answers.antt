use Rattle.std.proofs.Common.{All, IfSome, subst, sym}
use Rattle.std.proofs.lemmas.List.Elements.{All-push}
use Rattle.al_rows.specs.Above.{IsStored}
use Rattle.al_tables.specs.declared.batch.BatchRow.{BatchRow}
use Rattle.al_keeper_tests.proofs.making.batch_rows.Goals as goal

abbrev MayStand : BatchRow → Type 0
MayStand r = IfSome r.stored (IsStored r.key)

pub loop-app-preserved : goal.loop-app-preserved
loop-app-preserved c = subst (All MayStand) (sym c.in_ok-push.ensures.ok) (All-push MayStand c.loop-app.rows c.in_ok-batch_row.field-0 c.loop-app.invariant c.in_ok-batch_row.ensures)
