use Rattle.al_msgpack.specs.declared.val.Val.TheVariants as values
use Rattle.al_msgpack.proofs.Canonical.{canonical_spells}
use Rattle.al_txn.specs.Item.{item}
use Rattle.al_txn.proofs.RangedItem.{item_record, item_canonical}
use Rattle.al_txn.proofs.ranges.item_range_laws.Goals as goal

pub returns-clause-records : goal.returns-clause-records
returns-clause-records c = λ i r. item_record 12 i r

pub returns-clause-spellings : goal.returns-clause-spellings
returns-clause-spellings c = λ i r. (item_canonical 12 i r, canonical_spells 16 (values.Map (item.write i)) (item_canonical 12 i r))
