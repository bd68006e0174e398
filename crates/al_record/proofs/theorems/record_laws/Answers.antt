use Rattle.std.proofs.Common.{ap, ◌∙◌}
use Rattle.al_msgpack.specs.Rising.{rises}
use Rattle.al_record.proofs.Sound.{has_record}
use Rattle.al_record.proofs.Laws.{record_shows}
use Rattle.al_record.proofs.Tables.{names_are, all_agree, written_rises, written_canonical}
use Rattle.al_record.proofs.theorems.record_laws.Goals as goal

pub returns-clause-writes : goal.returns-clause-writes
returns-clause-writes g c = λ fs x r i. has_record fs x (ap rises (names_are fs) ∙ r) i

pub returns-clause-shows : goal.returns-clause-shows
returns-clause-shows g c = λ fs x es r i. record_shows fs x es (ap rises (names_are fs) ∙ r) i

pub returns-clause-determines : goal.returns-clause-determines
returns-clause-determines g c = λ fs x y es r i j. all_agree fs x y es (record_shows fs x es (ap rises (names_are fs) ∙ r) i) (record_shows fs y es (ap rises (names_are fs) ∙ r) j)

pub returns-clause-rising : goal.returns-clause-rising
returns-clause-rising g c = λ fs x r p. written_rises fs x r p

pub returns-clause-canonical : goal.returns-clause-canonical
returns-clause-canonical g c = λ depth fs x r s lt p. written_canonical depth fs x r s lt p
