use Rattle.std.proofs.Common.{◌≡◌, map, take}
use Rattle.al_record.specs.Columns.{address_in}
use Rattle.al_record.proofs.lookup.addresses.Given as goal

abbrev pub invariant-loop-v : goal.invariant-loop-v
invariant-loop-v l = map (λ a. a.0) l.out ≡ map address_in (take l.v-index l.v-items)
