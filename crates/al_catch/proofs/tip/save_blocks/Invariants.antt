use Rattle.std.proofs.Common.{◌≡◌, true}
use Rattle.al_catch.specs.Catching.{KeepsBut, Later, Leaves}
use Rattle.al_catch.specs.Steps.{HoldsUpTo, IsBlockName}
use Rattle.al_catch.proofs.tip.save_blocks.Given as goal

abbrev pub invariant-loop-number : goal.invariant-loop-number
invariant-loop-number g l = record {
  same : g.R.RowsAt.tells ≡ true → g.R.RowsAt.shown l.rows ≡ g.R.RowsAt.shown l.fn.rows;
  held : g.R.RowsAt.tells ≡ true → Leaves (g.F.Folder.files l.fn.folder) (g.F.Folder.files l.folder) (HoldsUpTo l.round l.first (g.R.RowsAt.shown l.fn.rows).block l.number);
  kept : KeepsBut (IsBlockName l.round) (g.F.Folder.files l.fn.folder) (g.F.Folder.files l.folder);
  calm : g.R.RowsAt.calm l.fn.rows → g.R.RowsAt.calm l.rows;
  later : Later (record { overtaken = g.R.RowsAt.overtaken l.fn.rows; failed = g.R.RowsAt.failed l.fn.rows; folder = g.F.Folder.faults l.fn.folder }) (record { overtaken = g.R.RowsAt.overtaken l.rows; failed = g.R.RowsAt.failed l.rows; folder = g.F.Folder.faults l.folder });
}
