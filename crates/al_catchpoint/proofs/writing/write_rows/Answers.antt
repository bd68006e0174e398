use Rattle.al_catch.specs.declared.writing.RowsWritten.{RowsWritten}
use Rattle.al_states.specs.Keeping.{held}
use Rattle.al_catchpoint.proofs.TipLemmas.{calm_at, interval_has, own_rows}
use Rattle.al_catchpoint.proofs.writing.write_rows.Goals as goal

pub fault_of-requires : goal.fault_of-requires
fault_of-requires g c =
    let h = held c.settle.new.self in
    let calm = c.in-Err.ensures.calm (calm_at h c.front.result c.new-at.result c.new-at.ensures c.front.ensures.front) in
    own_rows RowsWritten c.catch_interval-interval.result c.args.round (record { overtaken = c.new-at.result.overtaken; failed = 0; folder = g.F.Folder.faults c.args.folder.now }) (record { overtaken = c.write_rows.new.rows.overtaken; failed = 0; folder = g.F.Folder.faults c.write_rows.new.folder }) c.in-Err.refused (interval_has h (held c.args.states.now) c.catch_interval-interval.result c.args.round c.catch_interval-interval.ensures c.settle.ensures.held c.requires.interval) calm.1 c.in-Err.ensures.cause
