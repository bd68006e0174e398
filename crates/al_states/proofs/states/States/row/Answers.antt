use Rattle.std.proofs.Common.{◌∙◌, refl}
use Rattle.std.proofs.lemmas.Result.{err_from_is_err_and}
use Rattle.al_states.specs.declared.looking.RowAnswer.{RowAnswer}
use Rattle.al_states.specs.Keeping.{held}
use Rattle.al_states.specs.Looking.{ShowsRow}
use Rattle.al_states.proofs.LookLemmas.{begun, level_is, refused_at, shown_at, within}
use Rattle.al_states.proofs.states.States.row.Goals as goal

pub header_level-requires-clause-from : goal.header_level-requires-clause-from
header_level-requires-clause-from c = begun c.args.self.now c.in_ok-round.round c.requires

pub header_level-requires-clause-top : goal.header_level-requires-clause-top
header_level-requires-clause-top c = within c.args.self.now c.in_ok-round.round c.requires c.in_ok-round.ensures.1

pub returns-clause-looks : goal.returns-clause-looks
returns-clause-looks c =
    let s = c.args.self.now in
    let n = c.in_ok-round.round in
    let a : RowAnswer = record { front = c.front.result; round = n; level = c.header_level.result; row = c.row_after.result } in
    shown_at (held s) c.args.round (ShowsRow (held s) c.args.key.now) n a c.in_ok-round.ensures (record {
      front = c.front.ensures.front;
      round_is = refl;
      level = c.header_level.ensures ∙ level_is s n c.requires;
      row = c.row_after.ensures.row;
    })

pub returns-in_err-round-clause-looks : goal.returns-in_err-round-clause-looks
returns-in_err-round-clause-looks c =
    let h = held c.args.self.now in
    let p = err_from_is_err_and c.from_residual.result c.from_residual.ensures.1 in
    rw (p.1, p.2) (refused_at h c.args.round (ShowsRow h c.args.key.now) c.in_err-round.field-0.0 c.in_err-round.ensures)
