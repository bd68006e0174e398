use Rattle.std.proofs.Common.{◌≡◌, ◌∙◌, ◌≤◌, ◌+◌, ◌-◌, drop, length, sym, subst, arith}
use Rattle.std.specs.Vec.{vec_len, vec_capacity}
use Rattle.al_deltas.specs.Queue.{Queue, top}
use Rattle.al_deltas.proofs.Nets.{queue_dropped, shorter}
use Rattle.al_deltas.proofs.queue.Deltas.drop_to.Goals as goal

pub invariant_of-self : goal.invariant_of-self
invariant_of-self c =
    let q : Queue = record { base = c.self.inside.base; deltas = c.self.inside.deltas.items; totals = c.self.inside.totals; spare = c.self.inside.spare } in
    let low : q.base ≤ c.args.to = subst (λ (r : Queue). r.base ≤ c.args.to) (sym c.self.view_is) c.requires.from in
    let high : c.args.to ≤ top q = subst (λ (r : Queue). c.args.to ≤ top r) (sym c.self.view_is) c.requires.top in
    let items : c.drop.new.self.0.items ≡ drop (c.args.to - q.base) q.deltas = c.drop.ensures.items ∙ c.drain.ensures.kept in
    let few : length c.drop.new.self.0.items ≤ length q.deltas = shorter (c.args.to - q.base) q.deltas c.drop.new.self.0.items items in
    let room : vec_len c.drop.new.self.0 + q.spare ≤ vec_capacity c.drop.new.self.0 = omega (arith, c.self.invariant.1, c.drop.ensures.capacity, c.drain.ensures.capacity, c.drop.new.self.0.ok, c.self.inside.deltas.ok, few) in
    (queue_dropped q c.args.to c.totals_in-self-inside.result c.drop.new.self.0.items c.self.invariant.0 low high items, room)
