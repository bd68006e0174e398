use Rattle.al_keeper.proofs.Newests.{kept_are}
use Rattle.al_keeper.proofs.newest.kept_versions.Goals as goal

pub returns : goal.returns
returns c = kept_are c.current.result c.args.to c.args.versions.now c.in_ok-newest.newest c.in_ok-newest.ensures c.current.ensures
