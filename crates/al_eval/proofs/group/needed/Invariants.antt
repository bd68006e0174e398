use Rattle.std.proofs.Common.{◌≡◌, ◌≤◌, ◌+◌, ◌-◌, ◌^◌, min, drop, sum_by}
use Rattle.al_eval.specs.Groups.{size_of}
use Rattle.al_eval.proofs.group.needed.Given as goal

abbrev pub invariant-loop-item : goal.invariant-loop-item
invariant-loop-item l = record {
  sum : min (l.count + sum_by size_of (drop l.item-index l.group)) (2 ^ 64 - 1) ≡ min (sum_by size_of l.group) (2 ^ 64 - 1);
  most : l.count ≤ 2 ^ 64 - 1;
}
