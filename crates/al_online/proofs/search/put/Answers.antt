use Rattle.std.proofs.Common.{◌∙◌, subst}
use Rattle.al_online.proofs.Places.{set-place, insert-gap}
use Rattle.al_online.proofs.Snaps.{addresses_total, exact_addresses}
use Rattle.al_online.proofs.search.put.Goals as goal

pub returns-in-Ok : goal.returns-in-Ok
returns-in-Ok c =
    let at = rw c.deref.ensures.value at c.in-Ok.ensures.found in
    set-place addresses_total exact_addresses c.args.who c.args.online.now.items c.in-Ok.i c.args.known c.requires at.within at.tied

pub returns-in_ok-insert-in-Err : goal.returns-in_ok-insert-in-Err
returns-in_ok-insert-in-Err c =
    let gap = rw c.deref.ensures.value at c.in-Err.ensures.absent in
    c.in_ok-insert-in-Err.ensures.items ∙ insert-gap addresses_total exact_addresses c.args.who c.args.online.now.items c.in-Err.i c.args.known gap.within gap.below gap.above
