use Rattle.al_rewards.proofs.Spellings.{once}
use Rattle.al_rewards.proofs.totals_record.totals_laws.Goals as goal

pub returns : goal.returns
returns c = record { once = λ t u bytes p q. once t u bytes p q }
