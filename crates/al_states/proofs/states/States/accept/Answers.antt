use Rattle.std.proofs.Common.{refl, subst, sym}
use Rattle.al_states.specs.Accepting.{IsRefused}
use Rattle.al_states.specs.Keeping.{held}
use Rattle.al_states.proofs.ToldLemmas.{fault_refused}
use Rattle.al_states.proofs.states.States.accept.Goals as goal

pub returns-in-Err-clause-accepts : goal.returns-in-Err-clause-accepts
returns-in-Err-clause-accepts c =
    let h = held c.args.self.now in
    (refl, subst (IsRefused h.origin h.blocks c.args.bytes.now) (sym c.undecodable.ensures) (fault_refused h.origin h.blocks c.args.bytes.now c.in-Err.fault c.in-Err.ensures.right))
