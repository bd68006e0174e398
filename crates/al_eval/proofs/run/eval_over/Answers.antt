use Rattle.std.proofs.Common.{◌≡◌, ◌∙◌, ap, ap₂, sym, subst, ℕ, Ok, Result, map}
use Rattle.std.proofs.lemmas.Result.{IfOk-at_ok}
use Rattle.al_rows.specs.Rows.{RowMap}
use Rattle.al_overlay.specs.Work.{HasOneCreator, Worked}
use Rattle.al_eval.specs.Answers.{AskOne}
use Rattle.al_moves.specs.Changes.{AreChanges, change_of}
use Rattle.al_eval.specs.Refusals.{Refusal, IsDue, refusal_of}
use Rattle.al_eval.specs.Steps.{block_rows}
use Rattle.al_eval.proofs.Ends.{all_ask, creators_follow, online_follows, totals_follow}
use Rattle.al_eval.proofs.run.eval_over.Goals as goal
use Rattle.al_eval.proofs.run.eval_over.Goals.{in-Err, in-Ok, in-Ok-delta_of, in-Err-delta_of}

pub returns-clause-step : goal.returns-clause-step
returns-clause-step g c = λ t asks.
    let before : c.new-work.result.block ≡ g.V.RowView.rows c.args.view = ap (λ (w : Worked). w.block) c.new-work.ensures in
    let asked : AskOne c.new-work.result.block c.args.block.now.items = subst (λ m. AskOne m c.args.block.now.items) (sym before) asks in
    let rows = g.V.RowView.rows c.args.view in
    let new = c.run_block-run.new.work in
    let old : c.new-work.result.now ≡ rows = ap (λ (w : Worked). w.now) c.new-work.ensures in
    let block : new.block ≡ rows = c.run_block-run.ensures.step.fixed.block t ∙ ap (λ (w : Worked). w.block) c.new-work.ensures in
    let due = ap₂ (λ (u : ℕ) (m : RowMap). block_rows c.args.before.now u c.args.past.now c.args.block.now m) c.units-units.ensures old in
    elim c.match-run.branch [
      | in-Err w ↦ rw w.t-33-is (subst (λ (d : Result RowMap Refusal). IsDue d (refusal_of w.in-Err.refusal)) due (w.in-Err.ensures.step.gives t asked))
      | in-Ok w ↦ rw w.t-33-is (elim w.match-delta_of.branch [
        | in-Ok-delta_of v ↦ rw v.t-39-is (
          new.now,
          sym due ∙ w.in-Ok.ensures.step.gives t asked,
          subst (λ (m : RowMap). AreChanges m new.now (map change_of v.in-Ok-delta_of.delta.changes)) block (IfOk-at_ok (λ cs. AreChanges new.block new.now (map change_of cs)) (IfOk-at_ok (λ d. c.end-changes.result.0 ≡ Ok d.changes) v.in-Ok-delta_of.is w.delta_of.ensures.changes) (c.end-changes.ensures.changes t)),
        )
        | in-Err-delta_of v ↦ rw v.t-39-is tt
      ])
    ]

pub returns-clause-created : goal.returns-clause-created
returns-clause-created g c = λ t one.
    let rows = g.V.RowView.rows c.args.view in
    let new = c.run_block-run.new.work in
    let old : c.new-work.result.now ≡ rows = ap (λ (w : Worked). w.now) c.new-work.ensures in
    let before : c.new-work.result.block ≡ rows = ap (λ (w : Worked). w.block) c.new-work.ensures in
    let every : (id : ℕ) → HasOneCreator c.new-work.result.block id = subst (λ m. (id : ℕ) → HasOneCreator m id) (sym before) one in
    let asked = all_ask c.new-work.result.block c.args.block.now.items every in
    let due = ap₂ (λ (u : ℕ) (m : RowMap). block_rows c.args.before.now u c.args.past.now c.args.block.now m) c.units-units.ensures old in
    elim c.match-run.branch [
      | in-Err w ↦ rw w.t-33-is tt
      | in-Ok w ↦ rw w.t-33-is (elim w.match-delta_of.branch [
        | in-Ok-delta_of v ↦ rw v.t-39-is (creators_follow _ rows c.new-work.result.block new.now w.in-Ok.taken.creators v.in-Ok-delta_of.delta.creators (sym due ∙ w.in-Ok.ensures.step.gives t asked) before
            (IfOk-at_ok (λ d. d.creators ≡ w.in-Ok.taken.creators) v.in-Ok-delta_of.is w.delta_of.ensures.creators) (w.in-Ok.ensures.creators t every))
        | in-Err-delta_of v ↦ rw v.t-39-is tt
      ])
    ]

pub returns-clause-same : goal.returns-clause-same
returns-clause-same g c = λ t. c.end-changes.ensures.rows ∙ c.run_block-run.ensures.step.fixed.block t ∙ ap (λ (w : Worked). w.block) c.new-work.ensures

pub returns-clause-totals : goal.returns-clause-totals
returns-clause-totals g c = λ t asks.
    let before : c.new-work.result.block ≡ g.V.RowView.rows c.args.view = ap (λ (w : Worked). w.block) c.new-work.ensures in
    let asked : AskOne c.new-work.result.block c.args.block.now.items = subst (λ m. AskOne m c.args.block.now.items) (sym before) asks in
    let rows = g.V.RowView.rows c.args.view in
    let new = c.run_block-run.new.work in
    let old : c.new-work.result.now ≡ rows = ap (λ (w : Worked). w.now) c.new-work.ensures in
    let block : new.block ≡ rows = c.run_block-run.ensures.step.fixed.block t ∙ ap (λ (w : Worked). w.block) c.new-work.ensures in
    let level : new.level ≡ c.args.block.now.header.level = c.run_block-run.ensures.step.fixed.level ∙ ap (λ (w : Worked). w.level) c.new-work.ensures in
    let due = ap₂ (λ (u : ℕ) (m : RowMap). block_rows c.args.before.now u c.args.past.now c.args.block.now m) c.units-units.ensures old in
    elim c.match-run.branch [
      | in-Err w ↦ rw w.t-33-is tt
      | in-Ok w ↦ rw w.t-33-is (elim w.match-delta_of.branch [
        | in-Ok-delta_of v ↦ rw v.t-39-is (totals_follow _ c.args.before.now c.args.block.now.header rows new c.raise.new.self c.totals-totals.result v.in-Ok-delta_of.delta (sym due ∙ w.in-Ok.ensures.step.gives t asked)
            block level c.raise.ensures.exact (c.totals-totals.ensures t) (IfOk-at_ok (λ d. d.totals ≡ c.totals-totals.result) v.in-Ok-delta_of.is w.delta_of.ensures.totals))
        | in-Err-delta_of v ↦ rw v.t-39-is tt
      ])
    ]

pub returns-clause-stakes : goal.returns-clause-stakes
returns-clause-stakes g c = λ t asks.
    let before : c.new-work.result.block ≡ g.V.RowView.rows c.args.view = ap (λ (w : Worked). w.block) c.new-work.ensures in
    let asked : AskOne c.new-work.result.block c.args.block.now.items = subst (λ m. AskOne m c.args.block.now.items) (sym before) asks in
    let rows = g.V.RowView.rows c.args.view in
    let new = c.run_block-run.new.work in
    let old : c.new-work.result.now ≡ rows = ap (λ (w : Worked). w.now) c.new-work.ensures in
    let due = ap₂ (λ (u : ℕ) (m : RowMap). block_rows c.args.before.now u c.args.past.now c.args.block.now m) c.units-units.ensures old in
    elim c.match-run.branch [
      | in-Err w ↦ rw w.t-33-is tt
      | in-Ok w ↦ rw w.t-33-is (elim w.match-delta_of.branch [
        | in-Ok-delta_of v ↦ rw v.t-39-is (online_follows _ rows c.new-work.result.block new.now w.in-Ok.taken.online v.in-Ok-delta_of.delta.online (sym due ∙ w.in-Ok.ensures.step.gives t asked) before
            (IfOk-at_ok (λ d. d.online ≡ w.in-Ok.taken.online) v.in-Ok-delta_of.is w.delta_of.ensures.online) (w.in-Ok.ensures.online t))
        | in-Err-delta_of v ↦ rw v.t-39-is tt
      ])
    ]
