use Rattle.std.proofs.Common.{sym, ◌∙◌}
use Rattle.al_block.proofs.Straight.{no_items, some_items}
use Rattle.al_block.proofs.block_record.count_items.Goals as goal

pub returns-then-is_empty-clause-value : goal.returns-then-is_empty-clause-value
returns-then-is_empty-clause-value c = no_items c.args.items.now (sym c.is_empty.ensures ∙ c.if-is_empty.true)

pub returns-clause-value : goal.returns-clause-value
returns-clause-value c = some_items c.args.items.now (sym c.is_empty.ensures ∙ c.if-is_empty.false)
