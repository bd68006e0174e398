use Rattle.std.proofs.Common.{◌-◌, length, ap, sym, subst, arith}
use Rattle.al_catchpoint.specs.Applying.{Takes}
use Rattle.al_catchpoint.proofs.Takings.{takes_grows}
use Rattle.al_states.specs.Held.{Held}
use Rattle.al_states.specs.Keeping.{held}
use Rattle.al_states.proofs.KeepLemmas.{states_valid}
use Rattle.al_session.proofs.WorkLemmas.{all_kept, interval_then, round_high, rows_kept, rows_round, rows_then, stops_lower, takes_within, whole_work, works_then}
use Rattle.al_session.proofs.working.work.Goals as goal

pub returns-in-Err-clause-works : goal.returns-in-Err-clause-works
returns-in-Err-clause-works g c =
    let f = g.F.Folder.faults c.args.folder.now in
    stops_lower (held c.args.states.now) (held c.reach.new.states) c.args.bytes.now (c.args.round - 320) c.args.round f f c.in-Err.end (omega arith) (c.in-Err.ensures.reaches f f)

pub write_rows-requires-clause-interval : goal.write_rows-requires-clause-interval
write_rows-requires-clause-interval g c = interval_then (held c.args.states.now) (held c.reach.new.states) c.args.round (takes_grows (held c.args.states.now) (held c.reach.new.states) c.args.bytes.now c.in-Ok.rest.now c.in-Ok.ensures.reaches.0) c.requires.interval

pub returns-in-Err-write_rows-clause-kept : goal.returns-in-Err-write_rows-clause-kept
returns-in-Err-write_rows-clause-kept g c = rows_kept c.args.round (g.F.Folder.files c.args.folder.now) (g.F.Folder.files c.write_rows.new.folder) c.in-Err-write_rows.ensures.kept

pub finish-requires-clause-short : goal.finish-requires-clause-short
finish-requires-clause-short g c =
    let few = c.requires.short in
    let less = takes_within (held c.args.states.now) (held c.reach.new.states) c.args.bytes.now c.in-Ok.rest.now c.in-Ok.ensures.reaches.0 in
    omega (arith, few, less)

pub finish-requires-clause-high : goal.finish-requires-clause-high
finish-requires-clause-high g c =
    let high = round_high _ c.args.round c.requires.interval in
    let is = rows_round (held c.reach.new.states) c.in-Ok-write_rows.rows c.args.round (states_valid c.reach.new.states c.in-Ok.ensures.states) c.in-Ok-write_rows.ensures.written in
    omega (arith, high, is)

pub finish-requires-clause-round : goal.finish-requires-clause-round
finish-requires-clause-round g c =
    let high = round_high _ c.args.round c.requires.interval in
    let is = rows_round (held c.reach.new.states) c.in-Ok-write_rows.rows c.args.round (states_valid c.reach.new.states c.in-Ok.ensures.states) c.in-Ok-write_rows.ensures.written in
    let long = c.in-Ok.ensures.reaches.1 in
    let same = ap (λ (h : Held). length h.blocks) c.in-Ok-write_rows.ensures.held in
    omega (arith, high, is, long, same)

pub finish-requires-clause-rows : goal.finish-requires-clause-rows
finish-requires-clause-rows g c =
    let is = rows_round (held c.reach.new.states) c.in-Ok-write_rows.rows c.args.round (states_valid c.reach.new.states c.in-Ok.ensures.states) c.in-Ok-write_rows.ensures.written in
    rows_then (held c.reach.new.states) (held c.write_rows.new.states) c.in-Ok-write_rows.rows c.args.round c.in-Ok-write_rows.ensures.held is c.in-Ok-write_rows.ensures.written

pub returns-clause-works : goal.returns-clause-works
returns-clause-works g c =
    let is = rows_round (held c.reach.new.states) c.in-Ok-write_rows.rows c.args.round (states_valid c.reach.new.states c.in-Ok.ensures.states) c.in-Ok-write_rows.ensures.written in
    let takes = subst (λ m. Takes (held c.args.states.now) c.args.bytes.now m c.in-Ok.rest.now) (sym c.in-Ok-write_rows.ensures.held) c.in-Ok.ensures.reaches.0 in
    works_then (held c.args.states.now) (held c.write_rows.new.states) (held c.finish.new.states) c.args.bytes.now c.in-Ok.rest.now c.args.round c.in-Ok-write_rows.rows.round (g.F.Folder.faults c.args.folder.now) (g.F.Folder.faults c.write_rows.new.folder) (g.F.Folder.faults c.finish.new.folder) c.finish.result takes is c.in-Ok-write_rows.ensures.later c.finish.ensures.works

pub returns-clause-whole : goal.returns-clause-whole
returns-clause-whole g c =
    let valid = states_valid c.reach.new.states c.in-Ok.ensures.states in
    let is = rows_round (held c.reach.new.states) c.in-Ok-write_rows.rows c.args.round valid c.in-Ok-write_rows.ensures.written in
    whole_work (held c.reach.new.states) (held c.write_rows.new.states) (held c.finish.new.states) c.in-Ok-write_rows.rows c.args.round (g.F.Folder.files c.args.folder.now) (g.F.Folder.files c.write_rows.new.folder) (g.F.Folder.files c.finish.new.folder) c.finish.result valid c.in-Ok-write_rows.ensures.held is c.in-Ok-write_rows.ensures.kept c.in-Ok-write_rows.ensures.files c.finish.ensures.whole

pub returns-clause-kept : goal.returns-clause-kept
returns-clause-kept g c =
    let is = rows_round (held c.reach.new.states) c.in-Ok-write_rows.rows c.args.round (states_valid c.reach.new.states c.in-Ok.ensures.states) c.in-Ok-write_rows.ensures.written in
    all_kept c.args.round c.in-Ok-write_rows.rows.round (g.F.Folder.files c.args.folder.now) (g.F.Folder.files c.write_rows.new.folder) (g.F.Folder.files c.finish.new.folder) is c.in-Ok-write_rows.ensures.kept c.finish.ensures.kept
