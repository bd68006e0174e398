use Rattle.std.proofs.Common.{◌≡◌, ◌++◌, map, drop}
use Rattle.al_msgpack.specs.declared.val.Val.TheVariants as values
use Rattle.al_msgpack.specs.Spelled.{IsFront, all_spelled}
use Rattle.al_record.proofs.record.write_members.Given as goal

abbrev pub invariant-loop-value : goal.invariant-loop-value
invariant-loop-value g l = record {
  bytes : l.out.items ++ all_spelled (map (λ es. values.Map es) (map g.R.Record.format.write (drop l.value-index l.values))) ≡ l.fn.out.items ++ all_spelled (map (λ es. values.Map es) (map g.R.Record.format.write l.values));
  front : IsFront l.fn.out.items l.out.items;
}
