use Rattle.std.proofs.Common.{◌≡◌, drop}
use Rattle.al_record.specs.Columns.{fitting, heads}
use Rattle.al_record.specs.Code.{table_of}
use Rattle.al_record.proofs.pass.fitting.Given as goal

abbrev pub invariant-loop-c : goal.invariant-loop-c
invariant-loop-c l = fitting (heads (table_of (drop l.c-index l.columns))) l.e ≡ fitting (heads (table_of l.columns)) l.e
