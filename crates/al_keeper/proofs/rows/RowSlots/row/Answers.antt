use Rattle.std.proofs.Common.{subst, IfOk, ◌≡◌}
use Rattle.std.specs.FinMap.{get}
use Rattle.al_keeper.specs.Slots.{RowList, rows_in}
use Rattle.al_keeper.proofs.Slotted.{row_is, row_kept}
use Rattle.al_keeper.proofs.rows.RowSlots.row.Goals as goal

pub returns-clause-value : goal.returns-clause-value
returns-clause-value c = subst (λ (m : RowList). IfOk c.copy_at.result (λ s. s ≡ get (rows_in m) c.args.key.now)) c.self.view_is (row_is c.copy_at.result c.self.inside.slots.entries c.args.key.now c.len-count.ensures.ordered c.copy_at.ensures)

pub returns-clause-kept : goal.returns-clause-kept
returns-clause-kept c = row_kept c.copy_at.result c.self.inside.slots.entries c.args.key.now c.self.invariant c.copy_at.ensures
