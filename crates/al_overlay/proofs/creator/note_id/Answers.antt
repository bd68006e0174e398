use Rattle.std.proofs.Common.{sym}
use Rattle.al_overlay.proofs.Creators.{noted_entries, noted_new}
use Rattle.al_overlay.proofs.creator.note_id.Goals as goal

pub returns-in-Ok-clause-noted : goal.returns-in-Ok-clause-noted
returns-in-Ok-clause-noted c = λ es h. noted_new es c.args.id c.args.creators.now c.insert.new.self (sym c.contains_key.ensures) c.if-contains_key.false c.in-Ok.ensures.updates.0 h

pub returns-in-Err-clause-noted : goal.returns-in-Err-clause-noted
returns-in-Err-clause-noted c = λ es h. noted_entries es c.args.creators.now c.insert.new.self c.in-Err.ensures.err h
