use Rattle.al_states.proofs.KeepLemmas.{kept_newest}
use Rattle.al_states.proofs.states.States.settle.Goals as goal

pub returns-clause-states : goal.returns-clause-states
returns-clause-states c =
    let s = c.args.self.now in
    kept_newest s.before.chain s.first s.base s.newest c.catch_up.new.newest s.deltas s.kept.items s.before.header s.before.hash s.before.totals s.tail s.online c.requires c.catch_up.ensures.again
