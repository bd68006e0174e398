use Rattle.std.proofs.Common.{◌∙◌, sym}
use Rattle.std.specs.Cmp.{nat_cmp_total}
use Rattle.std.specs.FinMap.{nat_cmp-IsAntisymmetric}
use Rattle.std.specs.Ordering.{nat_cmp}
use Rattle.al_keeper.proofs.Lives.{get-live, sorted}
use Rattle.al_keeper.proofs.creators.CreatorSlots.creator.Goals as goal

pub returns : goal.returns
returns c = c.at.ensures ∙ sym (get-live nat_cmp_total nat_cmp-IsAntisymmetric c.args.self.now.slots.entries c.args.id (sorted nat_cmp c.args.self.now.slots.entries c.len-count.ensures.ordered))
