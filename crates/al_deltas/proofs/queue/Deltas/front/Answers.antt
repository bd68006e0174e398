use Rattle.std.proofs.Common.{◌≤◌, ◌-◌, ◌^◌, All, List, subst, sym, take}
use Rattle.al_deltas.specs.declared.delta.RoundDelta.{RoundDelta}
use Rattle.al_deltas.specs.Queue.{Queue}
use Rattle.al_deltas.proofs.Nets.{low_up_to}
use Rattle.al_deltas.proofs.queue.Deltas.front.Goals as goal

pub returns-clause-low : goal.returns-clause-low
returns-clause-low c =
    let q : Queue = record { base = c.self.inside.base; deltas = c.self.inside.deltas.items; totals = c.self.inside.totals; spare = c.self.inside.spare } in
    subst (λ (ds : List RoundDelta). All (λ (d : RoundDelta). d.round ≤ 2 ^ 62) (take (c.args.to - q.base) ds)) (sym c.deref.ensures.value) (low_up_to q c.args.to c.self.invariant.0)
