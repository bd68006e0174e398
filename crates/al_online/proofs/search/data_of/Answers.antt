use Rattle.al_base.specs.Keys.{address_cmp}
use Rattle.al_online.proofs.Places.{find-place, find-gap}
use Rattle.al_online.proofs.Snaps.{addresses_total, exact_addresses}
use Rattle.al_online.proofs.search.data_of.Goals as goal

pub returns-in-Ok : goal.returns-in-Ok
returns-in-Ok c = find-place addresses_total exact_addresses c.args.who.now c.args.online.now c.in-Ok.i _ c.requires c.in-Ok.ensures.found.within c.in-Ok.ensures.found.tied

pub returns-in-Err : goal.returns-in-Err
returns-in-Err c = find-gap addresses_total exact_addresses c.args.who.now c.args.online.now c.in-Err.field-0 c.in-Err.ensures.absent.within c.in-Err.ensures.absent.below c.in-Err.ensures.absent.above
