use Rattle.al_history.proofs.Told.{goes_on}
use Rattle.al_history.proofs.read.push_next.Goals as goal

pub returns-clause-read : goal.returns-clause-read
returns-clause-read c = λ vs. goes_on vs c.args.levels.now c.args.next c.level_of.result c.in_ok-changes.changes c.count_to.result c.split_at.result.0.now c.split_at.result.1.now c.args.rest.now c.args.memory.now c.push.new.self c.in_ok-changes.ensures.same c.count_to.ensures.value c.split_at.ensures.front c.split_at.ensures.back c.level_of.ensures c.requires c.in_ok-push.ensures.ok c.in_ok-push.ensures.top
