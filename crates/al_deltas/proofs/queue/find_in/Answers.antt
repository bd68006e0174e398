use Rattle.std.proofs.Common.{◌≡◌, ◌∙◌, None, Some, sym, ap, subst}
use Rattle.std.specs.Option.{option_copied}
use Rattle.al_deltas.specs.Queue.{changed_in}
use Rattle.al_deltas.proofs.Queues.{find_step, find_here, change_kept, split_kept}
use Rattle.al_deltas.proofs.Searches.{Rise}
use Rattle.al_deltas.proofs.queue.find_in.Goals as goal

pub change_in-requires : goal.change_in-requires
change_in-requires c = subst Rise (sym c.as_slice.ensures) (split_kept c.in-Some.before.now c.in-Some.last.now c.loop-last.left.now c.in-Some.ensures.cases.0 c.loop-last.invariant.kept).1.ordered

pub loop-last-preserved : goal.loop-last-preserved
loop-last-preserved c =
    let key = c.args.key.now in
    let none : changed_in key c.in-Some.last.now.changes ≡ None = ap (changed_in key) (sym c.as_slice.ensures) ∙ sym c.change_in.ensures ∙ ap option_copied c.in_default-change_in.is in
    record {
      same = find_step key c.in-Some.before.now c.in-Some.last.now c.loop-last.left.now c.in-Some.ensures.cases.0 none ∙ c.loop-last.invariant.same;
      kept = (split_kept c.in-Some.before.now c.in-Some.last.now c.loop-last.left.now c.in-Some.ensures.cases.0 c.loop-last.invariant.kept).0;
    }

pub returns-in-Some-change_in-clause-last : goal.returns-in-Some-change_in-clause-last
returns-in-Some-change_in-clause-last c =
    let key = c.args.key.now in
    let some : changed_in key c.in-Some.last.now.changes ≡ Some c.in-Some-change_in.row.now = ap (changed_in key) (sym c.as_slice.ensures) ∙ sym c.change_in.ensures ∙ ap option_copied c.in-Some-change_in.is in
    find_here key c.in-Some.before.now c.in-Some.last.now c.loop-last.left.now c.in-Some-change_in.row.now c.in-Some.ensures.cases.0 some ∙ c.loop-last.invariant.same

pub returns-in-Some-change_in-clause-kept : goal.returns-in-Some-change_in-clause-kept
returns-in-Some-change_in-clause-kept c =
    let key = c.args.key.now in
    let some : changed_in key c.in-Some.last.now.changes ≡ Some c.in-Some-change_in.row.now = ap (changed_in key) (sym c.as_slice.ensures) ∙ sym c.change_in.ensures ∙ ap option_copied c.in-Some-change_in.is in
    change_kept key c.in-Some.last.now c.in-Some-change_in.row.now (split_kept c.in-Some.before.now c.in-Some.last.now c.loop-last.left.now c.in-Some.ensures.cases.0 c.loop-last.invariant.kept).1 some
