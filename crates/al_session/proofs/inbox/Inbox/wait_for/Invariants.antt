use Rattle.std.proofs.Common.{◌≡◌, ◌-◌, length}
use Rattle.al_session.specs.Taking.{Grown}
use Rattle.al_session.proofs.inbox.Inbox.wait_for.Given as goal

abbrev pub invariant-loop-self : goal.invariant-loop-self
invariant-loop-self g l = record {
  grown : Grown l.fn.self l.self (g.S.Source.left l.fn.source) (g.S.Source.left l.source);
  same : g.S.Source.faults l.source ≡ g.S.Source.faults l.fn.source;
}

abbrev pub decreases-loop-self : goal.decreases-loop-self
decreases-loop-self g l = l.need - length l.self
