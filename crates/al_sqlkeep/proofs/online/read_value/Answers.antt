use Rattle.al_record.proofs.Canonical.{of_map}
use Rattle.al_sqlkeep.proofs.online.read_value.Goals as goal

pub read_online-requires : goal.read_online-requires
read_online-requires c = rw c.as_slice.ensures (of_map c.args.v.now c.in-Map.entries c.in-Map.is c.requires)
