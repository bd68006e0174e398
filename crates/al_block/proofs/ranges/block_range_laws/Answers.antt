use Rattle.std.proofs.Common.{ap}
use Rattle.al_digest.specs.Digests.{digest_of}
use Rattle.al_digest.specs.declared.hashing.Prefix.TheVariants as prefixes
use Rattle.al_msgpack.specs.declared.val.Val.TheVariants as values
use Rattle.al_msgpack.proofs.Canonical.{spells_only, canonical_spells}
use Rattle.al_block.specs.Block.{block}
use Rattle.al_block.proofs.Ranged.{block_record, block_canonical, payset_canonical}
use Rattle.al_block.proofs.ranges.block_range_laws.Goals as goal

pub returns-clause-records : goal.returns-clause-records
returns-clause-records c = λ b r. block_record b r

pub returns-clause-spellings : goal.returns-clause-spellings
returns-clause-spellings c = λ b r. (block_canonical b r, canonical_spells 16 (values.Map (block.write b)) (block_canonical b r))

pub returns-clause-encoded : goal.returns-clause-encoded
returns-clause-encoded c = λ b bytes s. spells_only 16 (values.Map (block.write b)) bytes s

pub returns-clause-paysets : goal.returns-clause-paysets
returns-clause-paysets c = λ b r. canonical_spells 16 _ (payset_canonical b r)

pub returns-clause-hashes : goal.returns-clause-hashes
returns-clause-hashes c = λ items bytes s. ap (digest_of prefixes.Payset) (spells_only 16 _ bytes s)
