use Rattle.std.proofs.Common.{ap}
use Rattle.al_overlay.specs.Work.{HasOneCreator}
use Rattle.al_resources.specs.Assets.{clawed_back, issued}
use Rattle.al_resources.specs.Finds.{clawed_by}
use Rattle.al_resources.proofs.Wheres.{finds-then}
use Rattle.al_resources.proofs.transfers.claw_back.Goals as goal

pub returns : goal.returns
unfolding clawed_back
returns g c =
    let old = c.args.work.now in
    let t = c.args.asset_move.now in
    finds-then g.V.RowView.tells (HasOneCreator old.block t.asset) (issued t.asset old.now) (clawed_by c.args.who.now t c.in_ok-issued.issued c.find_asset.new.work.now) (λ a. clawed_by c.args.who.now t a old.now) old c.find_asset.new.work c.claw.new.work c.find_asset.result c.claw.result c.in_ok-issued.issued c.find_asset.ensures.finds c.in_ok-issued.was c.claw.ensures (λ _ same. ap (λ m. clawed_by c.args.who.now t c.in_ok-issued.issued m) same)
