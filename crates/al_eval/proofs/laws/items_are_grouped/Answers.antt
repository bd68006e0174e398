use Rattle.al_eval.proofs.Grouped as grouped
use Rattle.al_eval.proofs.laws.items_are_grouped.Goals as goal

pub returns : goal.returns
returns c = grouped.items_are_grouped
