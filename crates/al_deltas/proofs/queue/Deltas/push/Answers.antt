use Rattle.std.proofs.Common.{◌∙◌, ◌≤◌, ◌+◌, suc, sym, ap, arith}
use Rattle.std.specs.Vec.{vec_len, vec_capacity}
use Rattle.al_deltas.specs.Queue.{Queue, top}
use Rattle.al_deltas.proofs.Queues.{queue_pushed}
use Rattle.al_deltas.proofs.queue.Deltas.push.Goals as goal

pub invariant_of-self-2 : goal.invariant_of-self-2
invariant_of-self-2 c =
    let q : Queue = record { base = c.self.inside.base; deltas = c.self.inside.deltas.items; totals = c.self.inside.totals; spare = c.self.inside.spare } in
    let room : vec_len c.push.new.self + c.saturating_sub-self-inside.result ≤ vec_capacity c.push.new.self = omega (arith, c.self.invariant.1, c.in_ok-push.ensures.len, c.push.new.self.ok) in
    (queue_pushed q c.args.d c.push.new.self.items c.saturating_sub-self-inside.result c.self.invariant.0 (c.requires.next ∙ ap (λ (r : Queue). suc (top r)) (sym c.self.view_is)) c.requires.most c.requires.kept c.in_ok-push.ensures.items, room)
