use Rattle.std.proofs.Common.{ap}
use Rattle.al_digest.specs.Digests.{digest_of}
use Rattle.al_digest.specs.declared.hashing.Prefix.TheVariants as prefixes
use Rattle.al_msgpack.specs.declared.val.Val.TheVariants as values
use Rattle.al_msgpack.proofs.Canonical.{spells_only, canonical_spells}
use Rattle.al_txn.specs.Txn.{txn}
use Rattle.al_txn.proofs.Ranged.{txn_record, txn_canonical}
use Rattle.al_txn.proofs.RangedGroup.{group_canonical}
use Rattle.al_txn.proofs.ranges.txn_range_laws.Goals as goal

pub returns-clause-records : goal.returns-clause-records
returns-clause-records c = λ t r. txn_record 15 t r

pub returns-clause-spellings : goal.returns-clause-spellings
returns-clause-spellings c = λ t r. (txn_canonical 14 t r, canonical_spells 16 (values.Map (txn.write t)) (txn_canonical 14 t r))

pub returns-clause-ids : goal.returns-clause-ids
returns-clause-ids c = λ t bytes s. ap (digest_of prefixes.Tx) (spells_only 16 _ bytes s)

pub returns-clause-groups : goal.returns-clause-groups
returns-clause-groups c = λ items bytes s. ap (digest_of prefixes.Group) (spells_only 16 _ bytes s)

pub returns-clause-encoded : goal.returns-clause-encoded
returns-clause-encoded c = λ t bytes s. spells_only 16 _ bytes s

pub returns-clause-listed : goal.returns-clause-listed
returns-clause-listed c = λ items lt. canonical_spells 16 _ (group_canonical items lt)
