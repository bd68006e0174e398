use Rattle.std.proofs.Common.{ap}
use Rattle.al_overlay.specs.Work.{HasOneCreator}
use Rattle.al_resources.specs.Assets.{frozen, issued}
use Rattle.al_resources.specs.Finds.{frozen_by}
use Rattle.al_resources.proofs.Wheres.{finds-then}
use Rattle.al_resources.proofs.freezes.freeze.Goals as goal

pub returns : goal.returns
unfolding frozen
returns g c =
    let old = c.args.work.now in
    let f = c.args.freeze.now in
    finds-then g.V.RowView.tells (HasOneCreator old.block f.asset) (issued f.asset old.now) (frozen_by c.args.who.now f c.in_ok-issued.issued c.find_asset.new.work.now) (λ a. frozen_by c.args.who.now f a old.now) old c.find_asset.new.work c.freeze_by.new.work c.find_asset.result c.freeze_by.result c.in_ok-issued.issued c.find_asset.ensures.finds c.in_ok-issued.was c.freeze_by.ensures (λ _ same. ap (λ m. frozen_by c.args.who.now f c.in_ok-issued.issued m) same)
