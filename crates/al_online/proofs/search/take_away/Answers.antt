use Rattle.std.proofs.Common.{◌∙◌, subst}
use Rattle.al_online.specs.Search.{without_account}
use Rattle.al_online.proofs.Places.{remove-place, without-gap}
use Rattle.al_online.proofs.Snaps.{addresses_total, exact_addresses}
use Rattle.al_online.proofs.search.take_away.Goals as goal

pub returns-in-Ok : goal.returns-in-Ok
returns-in-Ok c =
    let at = rw c.deref.ensures.value at c.in-Ok.ensures.found in
    c.remove.ensures.items ∙ remove-place addresses_total exact_addresses c.args.who.now c.args.online.now.items c.in-Ok.i c.requires at.within at.tied

pub returns-in_default : goal.returns-in_default
returns-in_default c =
    let gap = rw c.deref.ensures.value at c.in_default.ensures.absent in
    without-gap addresses_total exact_addresses c.args.who.now c.args.online.now.items c.in_default.field-0 gap.within gap.below gap.above
