use Rattle.std.proofs.Common.{◌≡◌, ◌≤◌, ◌+◌, ◌-◌, ◌^◌, min, drop}
use Rattle.al_eval.specs.Groups.{pooled}
use Rattle.al_eval.proofs.group.pooled.Given as goal

abbrev pub invariant-loop-item : goal.invariant-loop-item
invariant-loop-item l = record {
  sum : min (l.fees + pooled (drop l.item-index l.group)) (2 ^ 64 - 1) ≡ min (pooled l.group) (2 ^ 64 - 1);
  most : l.fees ≤ 2 ^ 64 - 1;
}
