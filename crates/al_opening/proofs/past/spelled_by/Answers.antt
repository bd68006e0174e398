use Rattle.al_opening.proofs.PastLemmas.{spells_none}
use Rattle.al_opening.proofs.past.spelled_by.Goals as goal

pub returns-in-Err : goal.returns-in-Err
returns-in-Err g c = spells_none c.args.bytes.now c.args.round c.in-Err.fault c.undecodable.result c.undecodable.ensures c.in-Err.ensures.only
