use Rattle.std.proofs.Common.{◌≡◌, drop, sum_by, ap, arith, []}
use Rattle.std.proofs.lemmas.List.{drop_all}
use Rattle.al_eval.specs.Groups.{size_of}
use Rattle.al_eval.proofs.group.needed.Goals as goal

pub returns : goal.returns
returns c =
    let i = c.loop-item.invariant in
    let none : drop c.loop-item.item-index c.args.group.now ≡ [] = drop_all c.loop-item.item-index c.args.group.now (omega arith) in
    let all : sum_by size_of (drop c.loop-item.item-index c.args.group.now) ≡ 0 = ap (sum_by size_of) none in
    omega (arith, i.sum, i.most, all)
