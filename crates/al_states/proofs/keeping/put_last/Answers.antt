use Rattle.al_states.proofs.KeepLemmas.{last_kept}
use Rattle.al_states.proofs.keeping.put_last.Goals as goal

pub apply-requires : goal.apply-requires
apply-requires c = last_kept c.args.deltas.now.deltas c.in-Some.delta.now c.in-Some.ensures c.requires
