use Rattle.std.proofs.Common.{◌≡◌, map, drop}
use Rattle.std.specs.List.{list_any}
use Rattle.std.specs.Str.{bytes_eq}
use Rattle.al_record.specs.Columns.{address_in}
use Rattle.al_record.proofs.shape.has_address.Given as goal

abbrev pub invariant-loop-v : goal.invariant-loop-v
invariant-loop-v l = list_any (λ b. bytes_eq l.a b) (map address_in (drop l.v-index l.vs)) ≡ list_any (λ b. bytes_eq l.a b) (map address_in l.vs)
