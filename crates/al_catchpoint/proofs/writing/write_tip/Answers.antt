use Rattle.std.proofs.Common.{◌-◌, arith, refl}
use Rattle.al_catch.specs.declared.label.Label.{Label}
use Rattle.al_states.specs.Keeping.{held}
use Rattle.al_catchpoint.proofs.TipLemmas.{label_of_tip, own_tip, whole_tip}
use Rattle.al_catchpoint.proofs.writing.write_tip.Goals as goal

pub write_tip-requires : goal.write_tip-requires
write_tip-requires g c =
    let within = c.requires.round.1 in
    let front = c.front-front.ensures.front in
    let bound = c.front-front.ensures.bound in
    record { round = (c.requires.round.0, omega (arith, within, front, bound)) }

pub returns-in-Ok-clause-label : goal.returns-in-Ok-clause-label
returns-in-Ok-clause-label g c =
    let low = c.requires.round.0 in
    (label_of_tip c.args.states.now c.requires.states c.args.w.now c.in-Ok.label c.new-at.result (c.args.w.now.round - 320) (omega (arith, low)) c.requires.round.1 c.new-at.ensures c.requires.rows (c.in-Ok.ensures.label refl) c.in-Ok.ensures.round, c.in-Ok.ensures.round)

pub returns-in-Ok-clause-whole : goal.returns-in-Ok-clause-whole
returns-in-Ok-clause-whole g c = λ s led chunks. whole_tip (held c.args.states.now) c.args.w.now c.in-Ok.label s c.new-at.result (c.args.w.now.round - 320) (g.F.Folder.files c.args.folder.now) (g.F.Folder.files c.write_tip.new.folder) c.new-at.ensures c.in-Ok.ensures.round led c.requires.rows chunks c.in-Ok.ensures.kept c.in-Ok.ensures.tip (c.in-Ok.ensures.blocks refl)

pub fault_of-requires : goal.fault_of-requires
fault_of-requires g c = own_tip Label (record { overtaken = c.new-at.result.overtaken; failed = 0; folder = g.F.Folder.faults c.args.folder.now }) (record { overtaken = c.write_tip.new.rows.overtaken; failed = 0; folder = g.F.Folder.faults c.write_tip.new.folder }) c.in-Err.refused c.in-Err.ensures.cause
