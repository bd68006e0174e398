use Rattle.al_record.proofs.Canonical.{of_map}
use Rattle.al_genesis.proofs.genesis_record.read_value.Goals as goal

pub read_genesis-requires : goal.read_genesis-requires
read_genesis-requires c = rw c.as_slice.ensures (of_map c.args.v.now c.in-Map.entries c.in-Map.is c.requires)
