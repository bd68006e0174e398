use Rattle.std.proofs.Common.{◌≡◌, ◌++◌, map, drop}
use Rattle.al_msgpack.specs.declared.val.Val.TheVariants as values
use Rattle.al_msgpack.specs.Spelled.{IsFront, all_spelled}
use Rattle.al_record.proofs.spell.write_members.Given as goal

abbrev pub invariant-loop-a : goal.invariant-loop-a
invariant-loop-a l = record {
  bytes : l.out.items ++ all_spelled (map (λ a. values.Bin a) (map (λ a. a.0) (drop l.a-index l.list))) ≡ l.fn.out.items ++ all_spelled (map (λ a. values.Bin a) (map (λ a. a.0) l.list));
  front : IsFront l.fn.out.items l.out.items;
}
