use Rattle.std.proofs.Common.{◌≤◌, length, arith}
use Rattle.al_catchpoint.proofs.Takings.{takes_grows}
use Rattle.al_states.specs.Keeping.{held}
use Rattle.al_session.proofs.WorkLemmas.{catchpoint_later, data_is, is_data, stops_then, takes_within, tip_round}
use Rattle.al_session.proofs.working.finish.Goals as goal

pub returns-in-Err-clause-works : goal.returns-in-Err-clause-works
returns-in-Err-clause-works g c = c.in-Err.ensures.reaches (g.F.Folder.faults c.args.folder.now) (g.F.Folder.faults c.args.folder.now)

pub write_tip-requires-clause-rows : goal.write_tip-requires-clause-rows
write_tip-requires-clause-rows g c = λ s led. c.requires.rows s (data_is (held c.args.states.now) (held c.reach.new.states) c.args.rows.now.round s (takes_grows (held c.args.states.now) (held c.reach.new.states) c.args.bytes.now c.in-Ok.rest.now c.in-Ok.ensures.reaches.0) c.requires.round led)

pub exhaust-requires-clause-short : goal.exhaust-requires-clause-short
exhaust-requires-clause-short g c =
    let few = c.requires.short in
    let less = takes_within (held c.args.states.now) (held c.reach.new.states) c.args.bytes.now c.in-Ok.rest.now c.in-Ok.ensures.reaches.0 in
    omega (arith, few, less)

pub returns-in-Ok-exhaust-clause-works : goal.returns-in-Ok-exhaust-clause-works
returns-in-Ok-exhaust-clause-works g c =
    tip_round (held c.args.states.now) (held c.reach.new.states) (held c.exhaust.new.states) c.args.bytes.now c.in-Ok.rest.now c.args.rows.now.round c.in-Ok-write_tip.label c.in-Ok.ensures.reaches.0 c.in-Ok-exhaust.ensures.exhausts c.in-Ok.ensures.reaches.1 c.in-Ok-write_tip.ensures.label.0 c.in-Ok-write_tip.ensures.label.1

pub returns-in-Ok-exhaust-clause-whole : goal.returns-in-Ok-exhaust-clause-whole
returns-in-Ok-exhaust-clause-whole g c = λ s at chunks.
    let h = held c.args.states.now in
    let m = held c.reach.new.states in
    let n = held c.exhaust.new.states in
    let first = takes_grows h m c.args.bytes.now c.in-Ok.rest.now c.in-Ok.ensures.reaches.0 in
    let later = takes_grows m n c.in-Ok.rest.now _ c.in-Ok-exhaust.ensures.exhausts in
    let within : c.in-Ok-write_tip.label.round ≤ length m.blocks = (let a = c.in-Ok.ensures.reaches.1 in let b = c.in-Ok-write_tip.ensures.label.1 in omega (arith, a, b)) in
    catchpoint_later m n c.in-Ok-write_tip.label (g.F.Folder.files c.args.folder.now) (g.F.Folder.files c.write_tip.new.folder) later within (c.in-Ok-write_tip.ensures.whole s (is_data h m c.args.rows.now.round s first c.requires.round at) chunks)

pub returns-in-Err-exhaust-clause-works : goal.returns-in-Err-exhaust-clause-works
returns-in-Err-exhaust-clause-works g c = stops_then (held c.args.states.now) (held c.reach.new.states) (held c.exhaust.new.states) c.args.bytes.now c.in-Ok.rest.now c.args.rows.now.round (g.F.Folder.faults c.args.folder.now) (g.F.Folder.faults c.args.folder.now) (g.F.Folder.faults c.write_tip.new.folder) c.in-Err-exhaust.end c.in-Ok.ensures.reaches.0 (omega arith) (c.in-Err-exhaust.ensures.exhausts c.args.rows.now.round (g.F.Folder.faults c.args.folder.now) (g.F.Folder.faults c.write_tip.new.folder))
