use Rattle.al_overlay.proofs.held.set_row.Goals as goal

pub returns-in-Ok-clause-work : goal.returns-in-Ok-clause-work
returns-in-Ok-clause-work g c = λ w. c.set_held.ensures.work g.V.RowView.tells (g.V.RowView.rows c.args.view.now) w

pub returns-in-Ok-clause-start : goal.returns-in-Ok-clause-start
returns-in-Ok-clause-start g c = λ t w. c.in-Ok.ensures.start g.V.RowView.tells (g.V.RowView.rows c.args.view.now) w

pub returns-in-Err-Memory-clause-work : goal.returns-in-Err-Memory-clause-work
returns-in-Err-Memory-clause-work g c = λ w. c.set_held.ensures.work g.V.RowView.tells (g.V.RowView.rows c.args.view.now) w
