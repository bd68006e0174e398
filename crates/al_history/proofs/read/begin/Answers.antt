use Rattle.al_history.proofs.Told.{begun}
use Rattle.al_history.proofs.read.begin.Goals as goal

pub returns-clause-read : goal.returns-clause-read
returns-clause-read c = begun c.args.versions.now c.args.levels.now c.args.base c.level_of.result c.in_ok-start.start c.count_to.result c.split_at.result.0.now c.split_at.result.1.now c.in_ok-memory.memory c.in_ok-start.ensures.same c.count_to.ensures.value c.split_at.ensures.front c.split_at.ensures.back c.level_of.ensures c.in_ok-memory.ensures
