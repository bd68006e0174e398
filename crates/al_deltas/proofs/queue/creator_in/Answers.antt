use Rattle.std.proofs.Common.{◌≡◌, ◌∙◌, List, None, Some, map, sym, ap, subst}
use Rattle.std.specs.List.Sorted.{IsStrictlySortedBy}
use Rattle.std.specs.Ordering.{nat_cmp}
use Rattle.al_base.specs.declared.key.CreatorChange.{CreatorChange}
use Rattle.al_deltas.specs.Queue.{creator_in}
use Rattle.al_deltas.proofs.Queues.{creator_here, creator_step, split_kept}
use Rattle.al_deltas.proofs.queue.creator_in.Goals as goal

pub creator_change_in-requires : goal.creator_change_in-requires
creator_change_in-requires c = subst (λ (cs : List CreatorChange). IsStrictlySortedBy nat_cmp (map (λ x. x.id) cs)) (sym c.as_slice.ensures) (split_kept c.in-Some.before.now c.in-Some.last.now c.loop-last.left.now c.in-Some.ensures.cases.0 c.loop-last.invariant.kept).1.creators

pub loop-last-preserved : goal.loop-last-preserved
loop-last-preserved c =
    let id = c.args.id in
    let none : creator_in id c.in-Some.last.now.creators ≡ None = ap (creator_in id) (sym c.as_slice.ensures) ∙ sym c.creator_change_in.ensures ∙ c.in_default-creator_change_in.is in
    record {
      same = creator_step id c.in-Some.before.now c.in-Some.last.now c.loop-last.left.now c.in-Some.ensures.cases.0 none ∙ c.loop-last.invariant.same;
      kept = (split_kept c.in-Some.before.now c.in-Some.last.now c.loop-last.left.now c.in-Some.ensures.cases.0 c.loop-last.invariant.kept).0;
    }

pub returns-in-Some-creator_change_in : goal.returns-in-Some-creator_change_in
returns-in-Some-creator_change_in c =
    let id = c.args.id in
    let some : creator_in id c.in-Some.last.now.creators ≡ Some c.in-Some-creator_change_in.creator = ap (creator_in id) (sym c.as_slice.ensures) ∙ sym c.creator_change_in.ensures ∙ c.in-Some-creator_change_in.is in
    creator_here id c.in-Some.before.now c.in-Some.last.now c.loop-last.left.now c.in-Some-creator_change_in.creator c.in-Some.ensures.cases.0 some ∙ c.loop-last.invariant.same
