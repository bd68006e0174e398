use Rattle.std.proofs.Common.{◌≤◌, ◌*◌}
use Rattle.al_catch.specs.Catching.{KeepsBut}
use Rattle.al_generated.specs.Catchpoints.{IsOwnName}
use Rattle.al_generated.specs.Making.{IsMade}
use Rattle.al_generated.proofs.PointLemmas.{HasPoints}
use Rattle.al_generated.proofs.points.chain.Given as goal

abbrev pub invariant-loop-k : goal.invariant-loop-k
invariant-loop-k g l = record {
  made : IsMade l.number (800 * l.k) l.states l.generator;
  points : HasPoints l.number (800 * l.k) l.k l.labels.items (g.F.Folder.files l.fn.folder) (g.F.Folder.files l.folder);
  kept : KeepsBut (IsOwnName l.blocks) (g.F.Folder.files l.fn.folder) (g.F.Folder.files l.folder);
  later : g.F.Folder.faults l.fn.folder ≤ g.F.Folder.faults l.folder;
}
