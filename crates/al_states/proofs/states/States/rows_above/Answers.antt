use Rattle.std.specs.Option.{option_copied}
use Rattle.al_states.proofs.CatchLemmas.{rows_given, rows_kept}
use Rattle.al_states.proofs.states.States.rows_above.Goals as goal

pub returns-clause-rows : goal.returns-clause-rows
returns-clause-rows c = rows_given c.args.self.now c.requires.states (option_copied c.args.after) c.args.max c.rows_above.result c.requires.newest c.rows_above.ensures

pub returns-clause-kept : goal.returns-clause-kept
returns-clause-kept c = rows_kept c.args.self.now c.requires.states (option_copied c.args.after) c.args.max c.rows_above.result c.requires.newest c.rows_above.ensures
