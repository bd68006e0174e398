use Rattle.std.proofs.Common.{subst, sym}
use Rattle.al_digest.specs.Texts.{AreBytes}
use Rattle.al_digest.proofs.Readings.{digest_are_bytes}
use Rattle.al_catch.proofs.label.label_of.Goals as goal

pub returns-clause-own : goal.returns-clause-own
returns-clause-own c = λ some most. (some, most, subst (AreBytes 32) (sym c.digest.ensures.value) (digest_are_bytes _))
