use Rattle.std.proofs.Common.{ℕ, List, Option, subst, OnOk, All, IsSome}
use Rattle.al_base.specs.declared.address.Address.{Address}
use Rattle.al_keeper.specs.Rooms.{slot_at}
use Rattle.std.specs.Cmp.{nat_cmp_total}
use Rattle.std.specs.FinMap.{nat_cmp-IsAntisymmetric}
use Rattle.std.specs.Ordering.{nat_cmp}
use Rattle.al_keeper.proofs.Lives.{stays, sorted}
use Rattle.al_keeper.proofs.creators.CreatorSlots.make_rooms.Goals as goal

pub returns-clause-same : goal.returns-clause-same
returns-clause-same c =
    let old = c.args.self.now.slots.entries in
    let new = c.make_rooms-made.new.map.entries in
    stays nat_cmp_total nat_cmp-IsAntisymmetric old new (sorted nat_cmp old c.len-before.ensures.ordered) (sorted nat_cmp new c.len-after.ensures.ordered) c.make_rooms-made.ensures.same

pub returns-clause-room : goal.returns-clause-room
returns-clause-room c =
    subst (λ (cs : List (ℕ × Option Address)). OnOk c.make_rooms-made.result (All (λ (k : ℕ × Option Address). IsSome (slot_at nat_cmp c.make_rooms-made.new.map.entries k.0)) cs)) c.as_slice.ensures.value c.make_rooms-made.ensures.room
