use Rattle.std.proofs.Common.{map, take}
use Rattle.std.specs.BTreeMap as tree
use Rattle.al_base.specs.Keys.{address_cmp}
use Rattle.al_history.specs.History.{change_of}
use Rattle.al_history.specs.Reading.{AreLatest}
use Rattle.al_history.proofs.once.latest.Given as goal

abbrev pub invariant-loop-version : goal.invariant-loop-version
invariant-loop-version l = AreLatest (map change_of (take l.version-index l.versions)) (tree.get address_cmp l.latest)
