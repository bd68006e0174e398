use Rattle.std.specs.Cmp.{nat_cmp_total}
use Rattle.std.specs.FinMap.{nat_cmp-IsAntisymmetric}
use Rattle.std.specs.Ordering.{nat_cmp}
use Rattle.al_keeper.proofs.Lives.{stays, sorted}
use Rattle.al_keeper.proofs.creators.CreatorSlots.sweep.Goals as goal

pub returns : goal.returns
returns c =
    let old = c.args.self.now.slots.entries in
    let new = c.sweep_creators.new.slots.entries in
    stays nat_cmp_total nat_cmp-IsAntisymmetric old new (sorted nat_cmp old c.len-before.ensures.ordered) (sorted nat_cmp new c.len-after.ensures.ordered) c.sweep_creators.ensures
