use Rattle.al_rewards.proofs.Spellings.{back_from}
use Rattle.al_rewards.proofs.totals_record.encode_totals.Goals as goal

pub returns-clause-back : goal.returns-clause-back
returns-clause-back c = λ input m. back_from c.append.result input _ _ _ m c.append.ensures.bytes
