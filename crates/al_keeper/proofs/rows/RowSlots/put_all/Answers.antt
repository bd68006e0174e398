use Rattle.std.proofs.Common.{◌∙◌, ap, sym, subst, All}
use Rattle.al_rows.specs.Finite.{overlaid}
use Rattle.al_keeper.specs.Slots.{RowList, HasRow, rows_in}
use Rattle.al_keeper.proofs.Slotted.{rows_change, kept_changes, rooms_back}
use Rattle.al_keeper.proofs.rows.RowSlots.put_all.Goals as goal

pub put_all-requires : goal.put_all-requires
put_all-requires c = rooms_back c.self.inside.slots.entries c.args.changes.items (subst (λ (m : RowList). All (λ k. HasRow m k.0) c.args.changes.items) (sym c.self.view_is) c.requires.room)

pub invariant_of-self : goal.invariant_of-self
invariant_of-self c = kept_changes c.self.inside.slots.entries c.put_all.new.map.entries c.args.changes.items c.self.invariant c.requires.kept c.put_all.ensures

pub returns : goal.returns
returns c = rows_change c.self.inside.slots.entries c.put_all.new.map.entries c.args.changes.items c.len-before.ensures.ordered c.len-after.ensures.ordered c.put_all.ensures ∙ ap (λ (m : RowList). overlaid c.args.changes.items (rows_in m)) c.self.view_is
