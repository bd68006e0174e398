use Rattle.std.proofs.Common.{◌≡◌, ◌≤◌, ◌++◌, map, true}
use Rattle.std.specs.List.Sorted.{IsStrictlySortedBy}
use Rattle.std.specs.Ordering.{nat_cmp}
use Rattle.al_moves.specs.Created.{changed_creators, creator_change_of}
use Rattle.al_moves.proofs.work.creators.creator_changes.Given as goal

abbrev pub invariant-loop-id : goal.invariant-loop-id
invariant-loop-id g l = record {
  same : g.V.RowView.tells ≡ true → g.V.RowView.rows l.view ≡ g.V.RowView.rows l.fn.view;
  lender : g.V.RowView.lender l.view ≡ g.V.RowView.lender l.fn.view;
  later : g.V.RowView.failures l.fn.view ≤ g.V.RowView.failures l.view;
  changes : g.V.RowView.tells ≡ true → map creator_change_of l.out ++ changed_creators (g.V.RowView.rows l.fn.view) l.rows.entries l.id-iterator ≡ changed_creators (g.V.RowView.rows l.fn.view) l.rows.entries l.creators.entries;
  ordered : IsStrictlySortedBy nat_cmp (map (λ c. c.id) l.out ++ map (λ e. e.0) l.id-iterator);
}
