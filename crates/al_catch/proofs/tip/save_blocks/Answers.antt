use Rattle.std.proofs.Common.{◌∙◌, ap, arith}
use Rattle.al_catch.proofs.StepLemmas.{block_held, block_kept, later_step}
use Rattle.al_catch.proofs.tip.save_blocks.Goals as goal

pub returns-in_err-save-clause-kept : goal.returns-in_err-save-clause-kept
returns-in_err-save-clause-kept g c =
    let below = c.loop-number-test.true in
    block_kept c.args.round c.loop-number.number (g.F.Folder.files c.args.folder.now) (g.F.Folder.files c.loop-number.folder) (g.F.Folder.files c.save.new.folder) c.as_slice.result.now c.save.result (omega (arith, below)) c.loop-number.invariant.kept c.save.ensures.files

pub loop-number-preserved : goal.loop-number-preserved
loop-number-preserved g c =
    let below = c.loop-number-test.true in
    let few = c.requires.1 in
    let l = c.loop-number in
    let before = g.F.Folder.files c.args.folder.now in
    let mid = g.F.Folder.files l.folder in
    let now = g.F.Folder.files c.save.new.folder in
    record {
      same = λ t. c.in_ok-bytes.ensures.same t ∙ l.invariant.same t;
      held = λ t. block_held _ c.args.round c.max-first.result (g.R.RowsAt.shown c.args.rows.now).block l.number before mid now c.as_slice.result.now c.in_ok-save.field-0 (omega (arith, below, few)) (c.as_slice.ensures ∙ c.in_ok-bytes.ensures.value t ∙ ap (λ s. s.block l.number) (l.invariant.same t)) (l.invariant.held t) c.in_ok-save.ensures.files;
      kept = block_kept c.args.round l.number before mid now c.as_slice.result.now c.save.result (omega (arith, below)) l.invariant.kept c.save.ensures.files;
      calm = λ h. c.in_ok-bytes.ensures.calm (l.invariant.calm h);
      later = later_step _ _ _ l.invariant.later (omega (arith, c.in_ok-bytes.ensures.later.0), c.in_ok-bytes.ensures.later.1) c.in_ok-save.ensures.later;
    }
