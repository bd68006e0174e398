use Rattle.al_ledger.proofs.Spelled.{spells_none}
use Rattle.al_ledger.proofs.repeating.block_in.Goals as goal

pub returns-in-Err : goal.returns-in-Err
returns-in-Err c = spells_none c.args.kept.now c.in-Err.fault c.unread.result c.unread.ensures c.in-Err.ensures.only
