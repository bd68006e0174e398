use Rattle.std.proofs.Common.{◌≡◌, map, length}
use Rattle.al_record.specs.Columns.{no_doubles, address_in}
use Rattle.al_record.proofs.shape.no_doubles.Given as goal

abbrev pub invariant-loop-left : goal.invariant-loop-left
invariant-loop-left l = no_doubles (map address_in l.left) ≡ no_doubles (map address_in l.vs)

abbrev pub decreases-loop-left : goal.decreases-loop-left
decreases-loop-left l = length l.left
