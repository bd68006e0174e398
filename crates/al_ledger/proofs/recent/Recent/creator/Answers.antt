use Rattle.std.proofs.Common.{◌∙◌, ◌≤◌, ap₂, subst}
use Rattle.al_ledger.specs.declared.looking.CreatorAnswer.{CreatorAnswer}
use Rattle.al_ledger.specs.Looking.{ShowsCreator}
use Rattle.al_ledger.proofs.Looks.{failed_at, floor_is, front_is, creator_is, refused_at, shown_at}
use Rattle.al_ledger.proofs.recent.Recent.creator.Goals as goal

pub returns-in-Ok-creator_after-clause-told : goal.returns-in-Ok-creator_after-clause-told
returns-in-Ok-creator_after-clause-told g c = λ t w kept k.
    let r = c.args.self.now in
    let u = g.K.TableKeeper.tables c.args.tables.now.inner in
    let n = c.in-Ok.round in
    let low = floor_is w u kept r k in
    let front = front_is w u kept r k in
    let from : w.floor ≤ n = subst (λ f. f ≤ n) low c.in-Ok.ensures.1 in
    let a : CreatorAnswer = record { front = c.front-front.result; round = n; address = c.in-Ok-creator_after.address } in
    shown_at (Unit {0}) w r.deltas.base _ c.args.round (ShowsCreator w c.args.id) n a low front c.in-Ok.ensures
    (ap₂ (λ f who. let x : CreatorAnswer = record { front = f; round = n; address = who } in x) (c.front-front.ensures.front ∙ front) (c.in-Ok-creator_after.ensures.value t ∙ creator_is w u kept r k n from c.args.id))

pub returns-in-Err-Failed-clause-told : goal.returns-in-Err-Failed-clause-told
returns-in-Err-Failed-clause-told g c = λ t w kept k.
    let u = g.K.TableKeeper.tables c.args.tables.now.inner in
    failed_at (Unit {0}) w c.args.self.now.deltas.base _ c.args.round c.in-Ok.round c.front-front.result (floor_is w u kept c.args.self.now k) (front_is w u kept c.args.self.now k) c.in-Ok.ensures c.front-front.ensures.front

pub returns-in-Err-clause-told : goal.returns-in-Err-clause-told
returns-in-Err-clause-told g c = λ t w kept k.
    let u = g.K.TableKeeper.tables c.args.tables.now.inner in
    refused_at w c.args.self.now.deltas.base _ c.args.round (ShowsCreator w c.args.id) c.in-Err.refused (floor_is w u kept c.args.self.now k) (front_is w u kept c.args.self.now k) c.in-Err.ensures
