use Rattle.al_record.proofs.Canonical.{of_map}
use Rattle.al_record.proofs.record.read_member.Goals as goal

pub read-requires : goal.read-requires
read-requires g c = rw c.as_slice.ensures (of_map c.args.v.now c.in-Map.entries c.in-Map.is c.requires)
