use Rattle.al_overlay.proofs.creator.set_noted.Goals as goal

pub returns-clause-noted : goal.returns-clause-noted
returns-clause-noted g c = λ h. c.note.ensures c.args.rows.now.entries (c.make_room.ensures.noted c.args.rows.now.entries h) c.in_ok-make_room.ensures.room c.set_row-done.ensures.others
