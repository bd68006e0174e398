-- What is written so far, with the lines that are left, is all.
use Rattle.std.proofs.Common.{◌≡◌, ◌++◌, drop}
use Rattle.al_generated.specs.Catchpoints.{label_lines}
use Rattle.al_generated.proofs.summary.put_labels.Given as goal

abbrev pub invariant-loop-label : goal.invariant-loop-label
invariant-loop-label l = l.out.items ++ label_lines (drop l.label-index l.labels) ≡ l.fn.out.items ++ label_lines l.labels
