use Rattle.std.proofs.Common.{sym}
use Rattle.al_msgpack.proofs.Verdicts.{prefix_free, one_value}
use Rattle.al_msgpack.proofs.Canonical.{spells_only, canonical_spells, spells_canonical}
use Rattle.al_msgpack.proofs.laws.format_laws.Goals as goal

pub returns-clause-each : goal.returns-clause-each
returns-clause-each c = λ v p. canonical_spells 16 v p

pub returns-clause-once : goal.returns-clause-once
returns-clause-once c = λ v b p. (sym (spells_only 16 v b p), spells_canonical 16 v b p)

pub returns-clause-one : goal.returns-clause-one
returns-clause-one c = λ v w b p q. one_value v w b p q

pub returns-clause-prefix_free : goal.returns-clause-prefix_free
returns-clause-prefix_free c = λ v w a next more p q. prefix_free v w a next more p q
