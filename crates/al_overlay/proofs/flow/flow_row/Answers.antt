use Rattle.std.proofs.lemmas.Result.{on_ok_weaker}
use Rattle.al_overlay.proofs.Flows.{flow_gives, flow_start, flow_work}
use Rattle.al_overlay.proofs.flow.flow_row.Goals as goal

pub returns-in-Some-clause-work : goal.returns-in-Some-clause-work
returns-in-Some-clause-work g c = λ w.
    flow_work c.args.level c.args.who.now c.args.flow c.args.rows.now.entries c.flow_held.new.rows.entries c.args.started.now.items c.flow_held.new.started.items c.in-Some.done c.in-Some.ensures.flows g.V.RowView.tells (g.V.RowView.rows c.args.view.now) w

pub returns-in-Some-clause-gives : goal.returns-in-Some-clause-gives
returns-in-Some-clause-gives g c = λ t.
    flow_gives c.args.level c.args.who.now c.args.flow c.args.rows.now.entries c.flow_held.new.rows.entries c.args.started.now.items c.flow_held.new.started.items c.in-Some.done c.in-Some.ensures.flows (g.V.RowView.rows c.args.view.now)

pub returns-in-Some-clause-start : goal.returns-in-Some-clause-start
returns-in-Some-clause-start g c = λ t w.
    on_ok_weaker c.in-Some.done (λ is. is g.V.RowView.tells (g.V.RowView.rows c.args.view.now) w)
    (flow_start c.args.level c.args.who.now c.args.flow c.args.rows.now.entries c.flow_held.new.rows.entries c.args.started.now.items c.flow_held.new.started.items c.in-Some.done c.in-Some.ensures.flows)
