use Rattle.std.proofs.Common.{◌≡◌, ◌≤◌, ◌*◌, true, length, drop}
use Rattle.std.specs.FinMap.{entries}
use Rattle.al_rows.specs.Above.{entries_above}
use Rattle.al_catch.specs.Catching.{IsRowsName, KeepsBut, Later, Leaves}
use Rattle.al_catch.specs.Steps.{HoldsFirst}
use Rattle.al_catch.proofs.chunk_files.write_chunks.Given as goal

abbrev pub invariant-loop-number : goal.invariant-loop-number
invariant-loop-number g l = record {
  same : g.R.RowsAt.tells ≡ true → g.R.RowsAt.shown l.rows ≡ g.R.RowsAt.shown l.fn.rows;
  rest : g.R.RowsAt.tells ≡ true → entries_above l.after (g.R.RowsAt.shown l.fn.rows).rows ≡ drop (512 * l.number) (entries (g.R.RowsAt.shown l.fn.rows).rows);
  room : g.R.RowsAt.tells ≡ true → 512 * l.number ≤ length (entries (g.R.RowsAt.shown l.fn.rows).rows);
  held : g.R.RowsAt.tells ≡ true → Leaves (g.F.Folder.files l.fn.folder) (g.F.Folder.files l.folder) (HoldsFirst l.round (g.R.RowsAt.shown l.fn.rows).rows l.number);
  kept : KeepsBut (IsRowsName l.round) (g.F.Folder.files l.fn.folder) (g.F.Folder.files l.folder);
  calm : g.R.RowsAt.calm l.fn.rows → g.R.RowsAt.calm l.rows;
  later : Later (record { overtaken = g.R.RowsAt.overtaken l.fn.rows; failed = g.R.RowsAt.failed l.fn.rows; folder = g.F.Folder.faults l.fn.folder }) (record { overtaken = g.R.RowsAt.overtaken l.rows; failed = g.R.RowsAt.failed l.rows; folder = g.F.Folder.faults l.folder });
}
