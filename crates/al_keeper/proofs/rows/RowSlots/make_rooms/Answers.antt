use Rattle.std.proofs.Common.{◌∙◌, ap, subst, OnOk, All, IsSome, Option}
use Rattle.al_base.specs.declared.key.Key.{Key}
use Rattle.al_rows.specs.declared.stored.Stored.{Stored}
use Rattle.al_keeper.specs.Rooms.{slot_at}
use Rattle.al_keeper.specs.Slots.{RowList, rows_in}
use Rattle.al_keeper.proofs.Slotted.{D, rows_stay, kept_stays, rooms_ok}
use Rattle.al_keeper.proofs.rows.RowSlots.make_rooms.Goals as goal

pub invariant_of-self : goal.invariant_of-self
invariant_of-self c = kept_stays c.self.inside.slots.entries c.make_rooms-made.new.map.entries c.self.invariant c.make_rooms-made.ensures.same

pub returns-clause-same : goal.returns-clause-same
returns-clause-same c = rows_stay c.self.inside.slots.entries c.make_rooms-made.new.map.entries c.len-before.ensures.ordered c.len-after.ensures.ordered c.make_rooms-made.ensures.same ∙ ap rows_in c.self.view_is

pub returns-clause-room : goal.returns-clause-room
returns-clause-room c = rooms_ok c.make_rooms-made.result c.make_rooms-made.new.map.entries c.args.changes.now.items
    (subst (λ (cs : RowList). OnOk c.make_rooms-made.result (All (λ (k : Key × Option Stored). IsSome (slot_at D c.make_rooms-made.new.map.entries k.0)) cs)) c.as_slice.ensures.value c.make_rooms-made.ensures.room)
