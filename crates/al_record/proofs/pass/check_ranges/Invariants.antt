use Rattle.std.proofs.Common.{◌≡◌, drop}
use Rattle.al_record.specs.Columns.{range_fault}
use Rattle.al_record.specs.Code.{table_of}
use Rattle.al_record.proofs.pass.check_ranges.Given as goal

abbrev pub invariant-loop-c : goal.invariant-loop-c
invariant-loop-c l = range_fault (table_of (drop l.c-index l.columns)) l.entries ≡ range_fault (table_of l.columns) l.entries
