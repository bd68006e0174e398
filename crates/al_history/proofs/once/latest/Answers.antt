use Rattle.al_history.proofs.Latest.{latest_more}
use Rattle.al_history.proofs.once.latest.Goals as goal

pub loop-version-preserved : goal.loop-version-preserved
loop-version-preserved c = latest_more c.args.versions.now c.loop-version.version-index _ _ _ c.loop-version-test.true c.loop-version.invariant c.in_ok-put.ensures
