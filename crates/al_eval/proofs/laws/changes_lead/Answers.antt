use Rattle.al_eval.proofs.Chains as chains
use Rattle.al_eval.proofs.laws.changes_lead.Goals as goal

pub returns : goal.returns
returns c = chains.changes_lead
