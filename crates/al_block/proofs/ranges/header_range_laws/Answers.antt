use Rattle.std.proofs.Common.{ap, sym}
use Rattle.al_msgpack.specs.declared.val.Val.TheVariants as values
use Rattle.al_msgpack.proofs.Canonical.{spells_only, canonical_spells}
use Rattle.al_digest.specs.Digests.{digest_of}
use Rattle.al_digest.specs.declared.hashing.Prefix.TheVariants as prefixes
use Rattle.al_block.specs.Header.{header}
use Rattle.al_block.proofs.Ranged.{header_record, header_canonical}
use Rattle.al_block.proofs.ranges.header_range_laws.Goals as goal

pub returns-clause-records : goal.returns-clause-records
returns-clause-records c = λ h r. header_record h r

pub returns-clause-spellings : goal.returns-clause-spellings
returns-clause-spellings c = λ h r. (header_canonical 14 h r, canonical_spells 16 (values.Map (header.write h)) (header_canonical 14 h r))

pub returns-clause-hashes : goal.returns-clause-hashes
returns-clause-hashes c = λ h bytes s. ap (digest_of prefixes.Header) (spells_only 16 (values.Map (header.write h)) bytes s)
