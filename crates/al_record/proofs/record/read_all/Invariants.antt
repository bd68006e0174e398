use Rattle.std.proofs.Common.{◌≡◌, map, take, drop, true}
use Rattle.std.specs.List.{list_all}
use Rattle.al_msgpack.specs.declared.val.Val.TheVariants as values
use Rattle.al_record.specs.Columns.{members_fault}
use Rattle.al_record.specs.Canonical.{canonical}
use Rattle.al_record.proofs.record.read_all.Given as goal

abbrev pub invariant-loop-v : goal.invariant-loop-v
invariant-loop-v g l = record {
  read : map (λ es. values.Map es) (map g.R.Record.format.write l.out) ≡ take l.v-index l.vals;
  fault : members_fault g.R.Record.format.fault (drop l.v-index l.vals) ≡ members_fault g.R.Record.format.fault l.vals;
  canonical : list_all canonical (drop l.v-index l.vals) ≡ true;
}
