use Rattle.std.proofs.Common.{◌≡◌, ◌∙◌, ◌<◌, ◌+◌, length, subst, refl, arith}
use Rattle.std.specs.FinMap.{entries}
use Rattle.al_rows.specs.Above.{rows_above}
use Rattle.al_catch.specs.Catching.{IsRowsName, Leaves, chunk_count}
use Rattle.al_catch.specs.Steps.{EndsAt, HoldsFirst}
use Rattle.al_catch.proofs.ChunkLemmas.{bytes_given, count_last, next_above, next_room, part_given, rest_first, some_there}
use Rattle.al_catch.proofs.StepLemmas.{chunk_held, chunk_kept, first_held, keeps_all, later_all, later_step}
use Rattle.al_catch.proofs.chunk_files.write_chunks.Goals as goal

pub loop-number-init : goal.loop-number-init
loop-number-init g c = record {
  same = λ t. refl;
  rest = λ t. rest_first (g.R.RowsAt.shown c.args.rows.now).rows;
  room = λ t. omega arith;
  held = λ t. first_held c.args.round (g.R.RowsAt.shown c.args.rows.now).rows (g.F.Folder.files c.args.folder.now);
  kept = keeps_all (IsRowsName c.args.round) (g.F.Folder.files c.args.folder.now);
  calm = λ h. h;
  later = later_all _;
}

pub returns-in_err-save_chunk-clause-kept : goal.returns-in_err-save_chunk-clause-kept
returns-in_err-save_chunk-clause-kept g c = chunk_kept c.args.round c.loop-number.number (g.F.Folder.files c.args.folder.now) (g.F.Folder.files c.loop-number.folder) (g.F.Folder.files c.save_chunk.new.folder) _ c.save_chunk.result c.loop-number.invariant.kept c.save_chunk.ensures.files

pub returns-then-len-clause-count : goal.returns-then-len-clause-count
returns-then-len-clause-count g c t =
    let rows = (g.R.RowsAt.shown c.args.rows.now).rows in
    let l = c.loop-number in
    let part = c.in_ok-part.part in
    let is : part ≡ rows_above l.after 512 rows = part_given _ l.after (g.R.RowsAt.shown l.rows) (g.R.RowsAt.shown c.args.rows.now) part (c.in_ok-part.ensures.value t) c.as_ref.ensures.value (l.invariant.same t) in
    let some : 0 < length part = some_there part c.last_key-last.result (subst (λ p. EndsAt p c.last_key-last.result) c.as_slice.ensures c.last_key-last.ensures) c.if-is_none.ensures in
    let less = c.if-len.true in
    let size = c.len.ensures in
    count_last rows l.after part l.number is (l.invariant.rest t) some (omega (arith, less, size))

pub returns-then-len-clause-files : goal.returns-then-len-clause-files
returns-then-len-clause-files g c t =
    let rows = (g.R.RowsAt.shown c.args.rows.now).rows in
    let l = c.loop-number in
    let part = c.in_ok-part.part in
    let before = g.F.Folder.files c.args.folder.now in
    let now = g.F.Folder.files c.save_chunk.new.folder in
    let is : part ≡ rows_above l.after 512 rows = part_given _ l.after (g.R.RowsAt.shown l.rows) (g.R.RowsAt.shown c.args.rows.now) part (c.in_ok-part.ensures.value t) c.as_ref.ensures.value (l.invariant.same t) in
    let some : 0 < length part = some_there part c.last_key-last.result (subst (λ p. EndsAt p c.last_key-last.result) c.as_slice.ensures c.last_key-last.ensures) c.if-is_none.ensures in
    let less = c.if-len.true in
    let size = c.len.ensures in
    let count : l.number + 1 ≡ chunk_count (length (entries rows)) = count_last rows l.after part l.number is (l.invariant.rest t) some (omega (arith, less, size)) in
    let below = c.loop-number-test.true in
    let bytes = bytes_given rows l.after part c.as_slice-in-loop-number.result.now l.number c.as_slice-in-loop-number.ensures is (l.invariant.rest t) in
    subst (λ n. Leaves before now (HoldsFirst c.args.round rows n)) count (chunk_held _ c.args.round rows l.number before (g.F.Folder.files l.folder) now _ c.in_ok-save_chunk.field-0 (omega (arith, below)) bytes (l.invariant.held t) c.in_ok-save_chunk.ensures.files)

pub returns-then-len-clause-kept : goal.returns-then-len-clause-kept
returns-then-len-clause-kept g c = chunk_kept c.args.round c.loop-number.number (g.F.Folder.files c.args.folder.now) (g.F.Folder.files c.loop-number.folder) (g.F.Folder.files c.save_chunk.new.folder) _ c.save_chunk.result c.loop-number.invariant.kept c.save_chunk.ensures.files

pub loop-number-preserved : goal.loop-number-preserved
loop-number-preserved g c =
    let shown = g.R.RowsAt.shown c.args.rows.now in
    let rows = shown.rows in
    let l = c.loop-number in
    let part = c.in_ok-part.part in
    let before = g.F.Folder.files c.args.folder.now in
    let mid = g.F.Folder.files l.folder in
    let now = g.F.Folder.files c.save_chunk.new.folder in
    let full = c.if-len.false in
    let size = c.len.ensures in
    let below = c.loop-number-test.true in
    record {
      same = λ t. c.in_ok-part.ensures.same t ∙ l.invariant.same t;
      rest = λ t. next_above rows l.after c.last_key-last.result part l.number (part_given _ l.after (g.R.RowsAt.shown l.rows) shown part (c.in_ok-part.ensures.value t) c.as_ref.ensures.value (l.invariant.same t)) (l.invariant.rest t) (omega (arith, full, size)) (subst (λ p. EndsAt p c.last_key-last.result) c.as_slice.ensures c.last_key-last.ensures);
      room = λ t. next_room rows l.after part l.number (part_given _ l.after (g.R.RowsAt.shown l.rows) shown part (c.in_ok-part.ensures.value t) c.as_ref.ensures.value (l.invariant.same t)) (l.invariant.rest t) (omega (arith, full, size));
      held = λ t. chunk_held _ c.args.round rows l.number before mid now _ c.in_ok-save_chunk.field-0 (omega (arith, below)) (bytes_given rows l.after part c.as_slice-in-loop-number.result.now l.number c.as_slice-in-loop-number.ensures (part_given _ l.after (g.R.RowsAt.shown l.rows) shown part (c.in_ok-part.ensures.value t) c.as_ref.ensures.value (l.invariant.same t)) (l.invariant.rest t)) (l.invariant.held t) c.in_ok-save_chunk.ensures.files;
      kept = chunk_kept c.args.round l.number before mid now _ c.save_chunk.result l.invariant.kept c.save_chunk.ensures.files;
      calm = λ h. (c.in_ok-part.ensures.calm (l.invariant.calm h)).0;
      later = later_step _ _ _ l.invariant.later c.in_ok-part.ensures.later c.in_ok-save_chunk.ensures.later;
    }
