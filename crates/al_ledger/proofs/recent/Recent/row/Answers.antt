use Rattle.std.proofs.Common.{◌∙◌, ◌≤◌, ap, refl, subst, option_map}
use Rattle.al_rows.specs.declared.stored.Stored.{Stored}
use Rattle.al_ledger.specs.declared.looking.RowAnswer.{RowAnswer}
use Rattle.al_ledger.specs.Looking.{ShowsRow}
use Rattle.al_ledger.proofs.Looks.{failed_at, floor_is, front_is, level_is, refused_at, row_is, shown_at}
use Rattle.al_ledger.proofs.recent.Recent.row.Goals as goal

pub returns-in-Ok-row_after-clause-told : goal.returns-in-Ok-row_after-clause-told
returns-in-Ok-row_after-clause-told g c = λ t w kept k.
    let r = c.args.self.now in
    let u = g.K.TableKeeper.tables c.args.tables.now.inner in
    let n = c.in-Ok.round in
    let low = floor_is w u kept r k in
    let front = front_is w u kept r k in
    let from : w.floor ≤ n = subst (λ f. f ≤ n) low c.in-Ok.ensures.1 in
    let a : RowAnswer = record { front = c.front-front.result; round = n; level = c.header_level-level.result; row = c.in-Ok-row_after.row } in
    shown_at (Unit {0}) w r.deltas.base _ c.args.round (ShowsRow w c.args.key.now) n a low front c.in-Ok.ensures (record {
      front = c.front-front.ensures.front ∙ front;
      round_is = refl;
      level = c.header_level-level.ensures ∙ level_is w u kept r k n from;
      row = c.in-Ok-row_after.ensures.value t ∙ ap (option_map (λ (s : Stored). s.row)) (row_is w u kept r k n from c.args.key.now);
    })

pub returns-in-Err-Failed-clause-told : goal.returns-in-Err-Failed-clause-told
returns-in-Err-Failed-clause-told g c = λ t w kept k.
    let u = g.K.TableKeeper.tables c.args.tables.now.inner in
    failed_at (Unit {0}) w c.args.self.now.deltas.base _ c.args.round c.in-Ok.round c.front-front.result (floor_is w u kept c.args.self.now k) (front_is w u kept c.args.self.now k) c.in-Ok.ensures c.front-front.ensures.front

pub returns-in-Err-clause-told : goal.returns-in-Err-clause-told
returns-in-Err-clause-told g c = λ t w kept k.
    let u = g.K.TableKeeper.tables c.args.tables.now.inner in
    refused_at w c.args.self.now.deltas.base _ c.args.round (ShowsRow w c.args.key.now) c.in-Err.refused (floor_is w u kept c.args.self.now k) (front_is w u kept c.args.self.now k) c.in-Err.ensures
