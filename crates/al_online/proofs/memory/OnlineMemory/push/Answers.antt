use Rattle.std.proofs.Common.{ap, arith, length, length-append}
use Rattle.al_online.specs.Memory.{Memory, top}
use Rattle.al_online.proofs.memory.OnlineMemory.push.Goals as goal

pub invariant_of-self-2 : goal.invariant_of-self-2
invariant_of-self-2 c =
    let next = ap (λ (m : Memory). top m) c.self.view_is in
    let more = simp length-append at (ap length c.in_ok-push.ensures.items) in
    (omega (arith, more), omega (arith, more, next, c.requires.next))
