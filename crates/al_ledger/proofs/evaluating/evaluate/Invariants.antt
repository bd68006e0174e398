use Rattle.std.specs.Prelude.{◌&&◌}
use Rattle.al_deltas.specs.Net.{creators_after}
use Rattle.al_deltas.specs.Queue.{rows_after}
use Rattle.al_ledger.specs.Creators.{agrees}
use Rattle.al_ledger.proofs.evaluating.evaluate.Given as goal

-- the step tells where the keeper tells its tables, and their creators are those of the rows
abbrev pub ghosts-evaluate_seen : goal.ghosts-evaluate_seen
ghosts-evaluate_seen g a = record {
  telling = g.K.TableKeeper.tells && agrees (rows_after a.recent.now.deltas.deltas (g.K.TableKeeper.tables a.tables.now.inner).rows) (creators_after a.recent.now.deltas.deltas (g.K.TableKeeper.tables a.tables.now.inner).creators);
  tables = g.K.TableKeeper.tables a.tables.now.inner;
  failures = g.K.TableKeeper.faults a.tables.now.inner;
}
