use Rattle.std.proofs.Common.{All, IfSome, subst, sym}
use Rattle.std.proofs.lemmas.List.Elements.{All-push}
use Rattle.al_rows.specs.Above.{IsStored}
use Rattle.al_tables.specs.declared.batch.BatchRow.{BatchRow}
use Rattle.al_opening_tests.proofs.tables.rows_of.Goals as goal

abbrev MayStand : BatchRow → Type 0
MayStand r = IfSome r.stored (IsStored r.key)

pub loop-number-preserved : goal.loop-number-preserved
loop-number-preserved c = subst (All MayStand) (sym c.in_ok-push.ensures.ok) (All-push MayStand c.loop-number.rows _ c.loop-number.invariant c.online.ensures)
