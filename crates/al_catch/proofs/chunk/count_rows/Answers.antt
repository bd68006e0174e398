use Rattle.std.proofs.Common.{sym, ◌∙◌}
use Rattle.al_catch.proofs.Straight.{no_rows, some_rows}
use Rattle.al_catch.proofs.chunk.count_rows.Goals as goal

pub returns-then-is_empty-clause-value : goal.returns-then-is_empty-clause-value
returns-then-is_empty-clause-value c = no_rows c.args.rows.now (sym c.is_empty.ensures ∙ c.if-is_empty.true)

pub returns-clause-value : goal.returns-clause-value
returns-clause-value c = some_rows c.args.rows.now (sym c.is_empty.ensures ∙ c.if-is_empty.false)
