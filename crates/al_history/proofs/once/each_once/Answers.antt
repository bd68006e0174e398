use Rattle.std.proofs.Common.{map}
use Rattle.al_history.specs.History.{change_of}
use Rattle.al_history.proofs.Latest.{answered_once, answered_same}
use Rattle.al_history.proofs.once.each_once.Goals as goal

pub returns-clause-once : goal.returns-clause-once
returns-clause-once c = answered_once c.in_order.result c.in_ok-latest.latest c.in_order.ensures.ordered c.in_order.ensures.items

pub returns-clause-same : goal.returns-clause-same
returns-clause-same c = answered_same c.in_order.result (map change_of c.args.versions.now) c.in_ok-latest.latest c.in_order.ensures.ordered c.in_ok-latest.ensures c.in_order.ensures.items
