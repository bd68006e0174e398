-- What is appended is the spelling.
use Rattle.std.proofs.Common.{◌≡◌, ℕ, List, ◌++◌}
use Rattle.al_msgpack.specs.declared.val.Val.{Val}
use Rattle.al_msgpack.specs.Canonical.{IsCanonical}
use Rattle.al_msgpack.specs.Spelled.{spelled}
use Rattle.al_msgpack.specs.Places.{IsSpelling}
use Rattle.al_msgpack.proofs.Canonical.{canonical_spells}

pub appended : (v : Val) (old new : List ℕ) → IsCanonical 16 v → new ≡ old ++ spelled v → (b : List ℕ) × IsSpelling v b × (new ≡ old ++ b)
appended v old new p h = (spelled v, canonical_spells 16 v p, h)
