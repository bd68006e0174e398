use Rattle.std.proofs.Common.{subst, IfOk, ◌≡◌}
use Rattle.std.specs.Option.{option_copied}
use Rattle.al_keeper.specs.Slots.{RowList, rows_in}
use Rattle.al_rows.specs.Above.{rows_above}
use Rattle.al_keeper.proofs.Listed.{rows_given, rows_fit}
use Rattle.al_keeper.proofs.Slotted.{in_order}
use Rattle.al_keeper.proofs.rows.RowSlots.after.Goals as goal

pub returns-clause-value : goal.returns-clause-value
returns-clause-value c = subst (λ (m : RowList). IfOk c.copies_from.result (λ rows. rows ≡ rows_above (option_copied c.args.after) c.args.max (rows_in m))) c.self.view_is
    (rows_given c.copies_from.result (option_copied c.args.after) c.bound_of.result c.args.max c.self.inside.slots.entries (in_order c.self.inside.slots.entries c.len-count.ensures.ordered) c.bound_of.ensures c.copies_from.ensures)

pub returns-clause-rows : goal.returns-clause-rows
returns-clause-rows c = rows_fit c.copies_from.result (option_copied c.args.after) c.bound_of.result c.args.max c.self.inside.slots.entries (in_order c.self.inside.slots.entries c.len-count.ensures.ordered) c.self.invariant c.bound_of.ensures c.copies_from.ensures
