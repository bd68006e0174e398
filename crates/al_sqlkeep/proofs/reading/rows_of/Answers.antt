use Rattle.std.proofs.Common.{◌≡◌, ◌<◌, length, true, arith, rules}
use Rattle.al_rows.specs.Above.{is_above}
use Rattle.al_sqlkeep.proofs.Runs.{no_run, longer_run}
use Rattle.al_sqlkeep.proofs.reading.rows_of.Goals as goal

pub loop-row-init : goal.loop-row-init
loop-row-init c = rw c.new-rows.ensures (no_run c.args.after c.args.max)

pub loop-row-preserved : goal.loop-row-preserved
loop-row-preserved c =
    let short : length c.loop-row.rows < c.args.max = omega (arith, c.if-len-max.false, c.len.ensures) in
    let above : is_above c.loop-row.last c.in_ok-keyed.keyed.key ≡ true = search rules in
    rw c.in_ok-push.ensures.ok (longer_run c.args.after c.args.max c.loop-row.last c.loop-row.rows c.in_ok-keyed.keyed c.loop-row.invariant short above c.in_ok-keyed.ensures)
