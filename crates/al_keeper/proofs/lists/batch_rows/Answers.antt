use Rattle.std.proofs.Common.{◌∙◌, ap, map}
use Rattle.al_tables.specs.Tables.{row_of}
use Rattle.al_keeper.proofs.Slotted.{kept_rows}
use Rattle.al_keeper.proofs.lists.batch_rows.Goals as goal

pub returns-clause-kept : goal.returns-clause-kept
returns-clause-kept c = kept_rows c.args.rows.now c.in_ok-out.out.items (c.in_ok-out.ensures ∙ ap (map row_of) c.as_slice.ensures) c.requires
