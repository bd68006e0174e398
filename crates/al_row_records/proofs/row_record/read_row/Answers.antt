use Rattle.al_record.proofs.Canonical.{of_map}
use Rattle.al_row_records.proofs.row_record.read_row.Goals as goal

pub read_entries-requires : goal.read_entries-requires
read_entries-requires c = rw c.as_slice.ensures (of_map c.args.v.now c.in-Map.entries c.in-Map.is c.requires)
