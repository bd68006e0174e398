use Rattle.std.proofs.Common.{◌≡◌, ◌+◌, ◌-◌, length}
use Rattle.al_http.specs.Limits.{most_head}
use Rattle.al_session.specs.Taking.{Grown}
use Rattle.al_session.proofs.inbox.Inbox.next_head.Given as goal

abbrev pub invariant-loop-head : goal.invariant-loop-head
invariant-loop-head g l = record {
  grown : Grown l.fn.self l.self (g.S.Source.left l.fn.source) (g.S.Source.left l.source);
  same : g.S.Source.faults l.source ≡ g.S.Source.faults l.fn.source;
}

abbrev pub decreases-loop-head : goal.decreases-loop-head
decreases-loop-head g l = most_head + 1 - length l.self
