-- What each answer means, by the relation alone: nothing is read here.
use Rattle.std.specs.Prelude.{ℕ, suc, ◌≡◌, ◌<◌, ◌≤◌, List, ◌∷◌, ◌++◌, length, take, Result, Ok, Err}
use Rattle.al_msgpack.specs.declared.val.Val.{Val}
use Rattle.al_msgpack.specs.declared.fault.DecodeFault.{DecodeFault}
use Rattle.al_msgpack.specs.declared.fault.DecodeFault.TheVariants.{Truncated, Malformed, Trailing, Memory}
use Rattle.al_msgpack.specs.Grammar.{Begins}
use Rattle.al_msgpack.specs.Spelling.{Spells}

abbrev pub IsSpelling : Val → List ℕ → Type 0
IsSpelling v b = Spells 16 v b

-- the input is a proper prefix of a spelling
pub record IsTruncated (input : List ℕ) (at : ℕ) : Type 0 where
  pub at_is : at ≡ length input
  pub val : Val
  pub next : ℕ
  pub more : List ℕ
  pub spells : IsSpelling val (input ++ next ∷ more)

-- a spelling stands in front, and more bytes follow
pub record IsTrailing (input : List ℕ) (at : ℕ) : Type 0 where
  pub val : Val
  pub front : List ℕ
  pub next : ℕ
  pub more : List ℕ
  pub is : input ≡ front ++ next ∷ more
  pub spells : IsSpelling val front
  pub at_is : at ≡ length front

-- the least place such that no spelling begins with the bytes up to and with it, where no spelling stands in front
pub record IsMalformed (input : List ℕ) (at : ℕ) : Type 0 where
  pub within : at < length input
  pub stops : Begins IsSpelling (take (suc at) input) → ⊥
  pub least : (j : ℕ) → j ≤ at → Begins IsSpelling (take j input)
  pub none : (v : Val) (a rest : List ℕ) → input ≡ a ++ rest → IsSpelling v a → ⊥

abbrev pub Means : List ℕ → Result Val DecodeFault → Type 0
Means input (Ok v) = IsSpelling v input
Means input (Err (Truncated at)) = IsTruncated input at
Means input (Err (Malformed at)) = IsMalformed input at
Means input (Err (Trailing at)) = IsTrailing input at
Means input (Err Memory) = ⊥

-- the answer is right, unless memory ran out
abbrev pub MeansUnless : List ℕ → Result Val DecodeFault → Type 0
MeansUnless input (Ok v) = Means input (Ok v)
MeansUnless input (Err (Truncated at)) = IsTruncated input at
MeansUnless input (Err (Malformed at)) = IsMalformed input at
MeansUnless input (Err (Trailing at)) = IsTrailing input at
MeansUnless input (Err Memory) = Unit {0}
