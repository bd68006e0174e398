use Rattle.std.proofs.Common.{All, subst, sym}
use Rattle.std.proofs.lemmas.List.Elements.{All-push}
use Rattle.al_rows.specs.Above.{IsStored}
use Rattle.al_rows.specs.declared.stored.Keyed.{Keyed}
use Rattle.al_keeper_tests.proofs.making.staged_rows.Goals as goal

abbrev MayStand : Keyed → Type 0
MayStand r = IsStored r.key r.stored

pub loop-app-preserved : goal.loop-app-preserved
loop-app-preserved c = subst (All MayStand) (sym c.in_ok-push.ensures.ok) (All-push MayStand c.loop-app.rows c.in_ok-keyed.field-0 c.loop-app.invariant c.in_ok-keyed.ensures)
