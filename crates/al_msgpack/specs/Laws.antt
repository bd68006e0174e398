-- The laws of the format.
use Rattle.std.specs.Prelude.{ℕ, ◌≡◌, List, ◌∷◌, ◌++◌}
use Rattle.al_msgpack.specs.declared.val.Val.{Val}
use Rattle.al_msgpack.specs.Canonical.{IsCanonical}
use Rattle.al_msgpack.specs.Spelled.{spelled}
use Rattle.al_msgpack.specs.Places.{IsSpelling}

-- a canonical value has a spelling
abbrev pub EachIsSpelled : Type 0
EachIsSpelled = (v : Val) → IsCanonical 16 v → IsSpelling v (spelled v)

-- it has no other, and no other value has one
abbrev pub SpelledOnce : Type 0
SpelledOnce = (v : Val) (b : List ℕ) → IsSpelling v b → (b ≡ spelled v) × IsCanonical 16 v

-- bytes spell at most one value
abbrev pub SpellsOne : Type 0
SpellsOne = (v w : Val) (b : List ℕ) → IsSpelling v b → IsSpelling w b → v ≡ w

-- no spelling is a proper prefix of another
abbrev pub IsPrefixFree : Type 0
IsPrefixFree = (v w : Val) (a : List ℕ) (next : ℕ) (more : List ℕ) → IsSpelling v a → IsSpelling w (a ++ next ∷ more) → ⊥
