use Rattle.std.proofs.Common.{subst, sym, IfOk}
use Rattle.al_routes.specs.declared.request.Request.{Request}
use Rattle.al_routes.specs.declared.request.Request.TheVariants as asks
use Rattle.al_states.specs.Keeping.{held}
use Rattle.al_states.specs.Showing.{IsLooked}
use Rattle.al_states.proofs.ToldLemmas.{account_replied, app_replied, asset_replied, box_replied, circulation_replied, creator_replied, stake_replied, status_replied, supply_replied}
use Rattle.al_states.proofs.states.States.look.Goals as goal

pub returns-in-Account : goal.returns-in-Account
returns-in-Account c = subst (λ (ask : Request). IfOk c.account_answer.result (IsLooked (held c.args.self.now) ask)) (sym c.in-Account.is) (account_replied (held c.args.self.now) c.in-Account.address c.in-Account.round c.row.result c.account_answer.result c.row.ensures.looks c.row.ensures.kept c.account_answer.ensures)

pub returns-in-Asset : goal.returns-in-Asset
returns-in-Asset c = subst (λ (ask : Request). IfOk c.asset_answer.result (IsLooked (held c.args.self.now) ask)) (sym c.in-Asset.is) (asset_replied (held c.args.self.now) c.in-Asset.address c.in-Asset.id c.in-Asset.round c.row-in-Asset.result c.asset_answer.result c.row-in-Asset.ensures.looks c.asset_answer.ensures)

pub returns-in-App : goal.returns-in-App
returns-in-App c = subst (λ (ask : Request). IfOk c.app_answer.result (IsLooked (held c.args.self.now) ask)) (sym c.in-App.is) (app_replied (held c.args.self.now) c.in-App.address c.in-App.id c.in-App.round c.row-in-App.result c.app_answer.result c.row-in-App.ensures.looks c.app_answer.ensures)

pub returns-in-BoxOf : goal.returns-in-BoxOf
returns-in-BoxOf c = subst (λ (ask : Request). IfOk c.box_answer.result (IsLooked (held c.args.self.now) ask)) (sym c.in-BoxOf.is) (box_replied (held c.args.self.now) c.in-BoxOf.app c.in-BoxOf.name c.in-BoxOf.round c.row-in-BoxOf.result c.box_answer.result c.row-in-BoxOf.ensures.looks c.box_answer.ensures)

pub returns-in-Creator : goal.returns-in-Creator
returns-in-Creator c = subst (λ (ask : Request). IfOk c.creator_answer.result (IsLooked (held c.args.self.now) ask)) (sym c.in-Creator.is) (creator_replied (held c.args.self.now) c.in-Creator.id c.in-Creator.round c.creator.result c.creator_answer.result c.creator.ensures c.creator_answer.ensures)

pub returns-in-Online : goal.returns-in-Online
returns-in-Online c = subst (λ (ask : Request). IfOk c.stake_answer.result (IsLooked (held c.args.self.now) ask)) (sym c.in-Online.is) (stake_replied (held c.args.self.now) c.in-Online.address c.in-Online.round c.online.result c.stake_answer.result c.online.ensures c.stake_answer.ensures)

pub returns-in-Circulation : goal.returns-in-Circulation
returns-in-Circulation c = subst (λ (ask : Request). IfOk c.circulation_answer.result (IsLooked (held c.args.self.now) ask)) (sym c.in-Circulation.is) (circulation_replied (held c.args.self.now) c.in-Circulation.round c.in-Circulation.vote c.circulation.result c.circulation_answer.result c.circulation.ensures c.circulation_answer.ensures)

pub returns-in-Supply : goal.returns-in-Supply
returns-in-Supply c = subst (λ (ask : Request). IfOk c.supply_answer.result (IsLooked (held c.args.self.now) ask)) (sym c.in-Supply.is) (supply_replied (held c.args.self.now) c.in-Supply.round c.supply.result c.supply_answer.result c.supply.ensures c.supply_answer.ensures)

pub returns-in-Standing : goal.returns-in-Standing
returns-in-Standing c =
    let h = held c.args.self.now in
    let told : IsLooked h asks.Standing c.status_answer.result = subst (IsLooked h asks.Standing) (sym c.status_answer.ensures) (status_replied h c.status.result c.status.ensures) in
    subst (λ (ask : Request). IsLooked h ask c.status_answer.result) (sym c.in-Standing.is) told
