use Rattle.std.proofs.Common.{◌≡◌, ◌++◌, map}
use Rattle.al_history.specs.Reading.{pair_of}
use Rattle.al_history.proofs.once.in_order.Given as goal

abbrev pub invariant-loop-address : goal.invariant-loop-address
invariant-loop-address l = map pair_of l.changes ++ l.address-iterator ≡ l.latest.entries
