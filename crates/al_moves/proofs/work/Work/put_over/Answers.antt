use Rattle.std.proofs.Common.{sym, subst}
use Rattle.al_moves.specs.Resources.{AreFew}
use Rattle.al_moves.proofs.Follows.{few_at}
use Rattle.al_moves.proofs.work.Work.put_over.Goals as goal

pub recount-requires : goal.recount-requires
recount-requires g c = subst AreFew (sym c.counts_at-new.ensures) (few_at c.args.key.now c.args.row c.requires)
