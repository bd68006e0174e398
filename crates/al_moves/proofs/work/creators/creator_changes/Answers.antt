use Rattle.std.proofs.Common.{rules, ◌∙◌, ap, subst, ℕ, map, List, Option, ◌++◌}
use Rattle.std.specs.List.Sorted.{IsStrictlySortedBy}
use Rattle.std.specs.Ordering.{nat_cmp}
use Rattle.al_base.specs.declared.key.CreatorChange.{CreatorChange}
use Rattle.al_rows.specs.Rows.{RowMap, creator_of}
use Rattle.al_overlay.specs.declared.creator.First.{First}
use Rattle.al_moves.proofs.Created.{left_out}
use Rattle.al_moves.proofs.Picks.{ordered_without}
use Rattle.al_moves.proofs.work.creators.creator_changes.Goals as goal

pub loop-id-preserved : goal.loop-id-preserved
loop-id-preserved g c = record {
  same = search rules;
  lender = search rules;
  later = search rules;
  changes = λ t.
      left_out c.args.rows.now.entries (g.V.RowView.rows c.args.view.now) c.loop-id.out c.in-Some.id.now c.in-Some.noted.now c.next.new.self c.loop-id.id-iterator _ c.in_ok-before.before c.creator_noted-now.result
      (c.in_ok-before.ensures.value t ∙ ap (λ (n : RowMap). creator_of n c.in-Some.id.now) (c.loop-id.invariant.same t)) c.creator_noted-now.ensures c.if-not-same_creator.ensures c.in-Some.ensures.steps (c.loop-id.invariant.changes t);
  ordered = ordered_without nat_cmp (map (λ (x : CreatorChange). x.id) c.loop-id.out) c.in-Some.id.now (map (λ (e : ℕ × Option First). e.0) c.next.new.self)
      (subst (λ (rest : List (ℕ × Option First)). IsStrictlySortedBy nat_cmp (map (λ (x : CreatorChange). x.id) c.loop-id.out ++ map (λ (e : ℕ × Option First). e.0) rest)) c.in-Some.ensures.steps c.loop-id.invariant.ordered);
}
