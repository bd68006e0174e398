use Rattle.std.proofs.Common.{◌≡◌, drop, ap, arith, []}
use Rattle.std.proofs.lemmas.List.{drop_all}
use Rattle.al_eval.specs.Groups.{pooled}
use Rattle.al_eval.proofs.group.pooled.Goals as goal

pub returns : goal.returns
returns c =
    let i = c.loop-item.invariant in
    let none : drop c.loop-item.item-index c.args.group.now ≡ [] = drop_all c.loop-item.item-index c.args.group.now (omega arith) in
    let all : pooled (drop c.loop-item.item-index c.args.group.now) ≡ 0 = ap pooled none in
    omega (arith, i.sum, i.most, all)
