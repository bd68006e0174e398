use Rattle.std.proofs.Common.{◌≡◌, ◌≤◌, true}
use Rattle.al_opening.proofs.Pages.{Counted}
use Rattle.al_opening.proofs.counting.read_totals.Given as goal

abbrev pub invariant-loop-page : goal.invariant-loop-page
invariant-loop-page g l = record {
  same : g.K.TableKeeper.tells ≡ true → g.K.TableKeeper.tables l.tables.inner ≡ g.K.TableKeeper.tables l.fn.tables.inner;
  counted : g.K.TableKeeper.tells ≡ true → Counted l.level (g.K.TableKeeper.tables l.fn.tables.inner).rows l.after l.totals;
  later : g.K.TableKeeper.faults l.fn.tables.inner ≤ g.K.TableKeeper.faults l.tables.inner;
}
