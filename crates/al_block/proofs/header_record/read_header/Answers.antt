use Rattle.std.proofs.Common.{rules, refl}
use Rattle.al_record.proofs.Engine.{is_record, passes_on}
use Rattle.al_block.specs.Header.{header, header_fields}
use Rattle.al_block.proofs.header_record.read_header.Goals as goal

pub returns-in_err-check : goal.returns-in_err-check
returns-in_err-check c = passes_on header c.args.entries.now _ _ c.from_residual.result refl c.in_err-check.ensures c.from_residual.ensures.1

pub returns : goal.returns
returns c = is_record header_fields _ c.args.entries.now refl c.requires c.in_ok-check.ensures (search rules)
