use Rattle.std.proofs.Common.{refl, true, false}
use Rattle.al_rows.specs.Rows.{same_bytes}
use Rattle.al_states.proofs.KeepLemmas.{kept_newest, last_state}
use Rattle.al_states.proofs.ToldLemmas.{flipped, next_is}
use Rattle.al_states.proofs.states.States.follow.Goals as goal

pub returns-then-ne-clause-accepts : goal.returns-then-ne-clause-accepts
returns-then-ne-clause-accepts c =
    let s = c.args.self.now in
    let k = c.requires.states in
    let b = c.args.block in
    (refl, (b, c.requires.spelled, (last_state s k, next_is s k b false c.requires.next (flipped (same_bytes b.header.prev s.before.hash) true c.if-ne.ensures), k.hash_is, c.front.ensures.front)))

pub judge-requires-clause-states : goal.judge-requires-clause-states
judge-requires-clause-states c =
    let s = c.args.self.now in
    kept_newest s.before.chain s.first s.base s.newest c.catch_up.new.newest s.deltas s.kept.items s.before.header s.before.hash s.before.totals s.tail s.online c.requires.states c.catch_up.ensures.again

pub returns-in-Err-clause-states : goal.returns-in-Err-clause-states
returns-in-Err-clause-states c =
    let s = c.args.self.now in
    kept_newest s.before.chain s.first s.base s.newest c.catch_up.new.newest s.deltas s.kept.items s.before.header s.before.hash s.before.totals s.tail s.online c.requires.states c.catch_up.ensures.again
