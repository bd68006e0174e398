use Rattle.std.proofs.Common.{sym, ◌∙◌}
use Rattle.al_txn.proofs.Straight.{no_effects, some_effects}
use Rattle.al_txn.proofs.item.count_fields.Goals as goal

pub returns-then-is_empty : goal.returns-then-is_empty
returns-then-is_empty c = no_effects c.args.effects.now (sym c.is_empty.ensures ∙ c.if-is_empty.true)

pub returns : goal.returns
returns c = some_effects c.args.effects.now (sym c.is_empty.ensures ∙ c.if-is_empty.false)
