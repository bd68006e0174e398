use Rattle.std.proofs.Common.{◌≡◌, map, take}
use Rattle.al_catch.specs.Steps.{row_of}
use Rattle.al_catch.proofs.chunk_files.chunk_of.Given as goal

abbrev pub invariant-loop-row : goal.invariant-loop-row
invariant-loop-row l = l.held ≡ map row_of (take l.row-index l.rows)
