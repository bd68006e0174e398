use Rattle.std.proofs.Common.{refl}
use Rattle.al_record.proofs.Engine.{is_record}
use Rattle.al_row_records.specs.Tables.{box_fields}
use Rattle.al_row_records.proofs.box_record.read_box.Goals as goal

pub returns : goal.returns
returns c = is_record box_fields _ c.args.entries.now refl c.requires c.in_ok-check.ensures (c.in_ok-bytes.ensures, tt)
