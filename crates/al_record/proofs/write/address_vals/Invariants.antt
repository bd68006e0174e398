use Rattle.std.proofs.Common.{◌≡◌, map, take}
use Rattle.al_msgpack.specs.declared.val.Val.TheVariants as values
use Rattle.al_record.proofs.write.address_vals.Given as goal

abbrev pub invariant-loop-a : goal.invariant-loop-a
invariant-loop-a l = l.out ≡ map (λ a. values.Bin a) (map (λ a. a.0) (take l.a-index l.list))
