use Rattle.std.proofs.Common.{◌≡◌, ◌≤◌, ◌+◌, drop, sum_by}
use Rattle.al_bodies.specs.Effect.{inner_in}
use Rattle.al_eval.specs.Groups.{size_of}
use Rattle.al_eval.proofs.group.size_of.Given as goal

abbrev pub invariant-loop-effect : goal.invariant-loop-effect
invariant-loop-effect l = record {
  sum : l.size + sum_by inner_in (drop l.effect-index l.item.effects) ≡ size_of l.item;
  most : l.size ≤ 1 + l.effect-index;
}
