use Rattle.al_eval.proofs.Grouped as grouped
use Rattle.al_eval.proofs.laws.groups_are_items.Goals as goal

pub returns : goal.returns
returns c = grouped.groups_are_items
