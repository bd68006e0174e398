use Rattle.std.proofs.Common.{◌∙◌, ap}
use Rattle.al_keeper.specs.Slots.{rows_in}
use Rattle.al_keeper.proofs.Slotted.{rows_stay_by, kept_stays_by}
use Rattle.al_keeper.proofs.rows.RowSlots.sweep.Goals as goal

pub invariant_of-self : goal.invariant_of-self
invariant_of-self c = kept_stays_by c.self.inside.slots.entries c.sweep_rows.new.slots.entries c.self.invariant c.sweep_rows.ensures

pub returns : goal.returns
returns c = rows_stay_by c.self.inside.slots.entries c.sweep_rows.new.slots.entries c.len-before.ensures.ordered c.len-after.ensures.ordered c.sweep_rows.ensures ∙ ap rows_in c.self.view_is
