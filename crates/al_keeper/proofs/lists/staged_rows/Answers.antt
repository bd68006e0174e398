use Rattle.std.proofs.Common.{◌∙◌, ap, map, reverse}
use Rattle.al_tables.specs.Tables.{staged_of}
use Rattle.al_keeper.proofs.Slotted.{kept_staged}
use Rattle.al_keeper.proofs.lists.staged_rows.Goals as goal

pub returns-clause-kept : goal.returns-clause-kept
returns-clause-kept c = kept_staged c.args.rows.now c.last_first.result.items (c.last_first.ensures ∙ ap reverse (c.in_ok-out.ensures ∙ ap (map staged_of) c.as_slice.ensures)) c.requires
