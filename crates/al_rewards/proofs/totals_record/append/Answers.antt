use Rattle.std.proofs.Common.{arith}
use Rattle.al_rewards.proofs.Spellings.{spells}
use Rattle.al_rewards.proofs.totals_record.append.Goals as goal

pub returns-clause-spells : goal.returns-clause-spells
returns-clause-spells c = spells c.args.t (omega arith) ((omega arith, omega arith), (omega arith, omega arith), (omega arith, omega arith))
