use Rattle.std.proofs.Common.{sym, ◌∙◌}
use Rattle.al_bodies.proofs.Straight.{count_absent, count_there}
use Rattle.al_block.specs.Header.{header}
use Rattle.al_block.proofs.block_record.count_header.Goals as goal

pub returns-then-is_empty-clause-value : goal.returns-then-is_empty-clause-value
returns-then-is_empty-clause-value c = count_absent (header.write c.args.h.now) (sym c.is_empty.ensures ∙ c.if-is_empty.true)

pub returns-clause-value : goal.returns-clause-value
returns-clause-value c = count_there (header.write c.args.h.now) (sym c.is_empty.ensures ∙ c.if-is_empty.false)
