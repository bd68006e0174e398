use Rattle.al_deltas.specs.Queue.{stored_at}
use Rattle.al_deltas.proofs.Indexes.{index_same, put_differs}
use Rattle.al_deltas.proofs.kept.apply_one.Goals as goal

pub returns-in_err-had-clause-index : goal.returns-in_err-had-clause-index
returns-in_err-had-clause-index c = index_same c.args.creators.now c.args.rows.now c.put_change.new.rows c.in_err-had.ensures.err c.requires

pub returns-clause-index : goal.returns-clause-index
returns-clause-index c =
    let change = c.args.change.now in
    let old = c.args.rows.now in
    let new = c.put_change.new.rows in
    c.follow.ensures old new c.requires (put_differs change.key c.in_ok-had.had c.has_params.result (stored_at c.args.round change.row) old new c.in_ok-had.ensures.had (c.has_params.ensures c.args.round) c.in_ok-had.ensures.ok)
