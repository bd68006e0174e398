-- The one way to cut a stream.
use Rattle.std.specs.Prelude.{◌≡◌, ◌⊎◌, ℕ, List, ◌++◌, All}
use mathlib.Core.List.{IsPrefix}
use Rattle.al_http.specs.declared.asking.SizeFault.{SizeFault}
use Rattle.al_http.specs.Requests.{Message, IsCut, IsRequest, IsRefusedHead, IsUnfinished, spell, stream_of, IsRest}

-- no request begins another
abbrev pub OneRequest : Type 0
OneRequest = (a b : Message) (x y : List ℕ) → IsRequest a → IsRequest b → spell a ++ x ≡ spell b ++ y → (a ≡ b) × (x ≡ y)

-- two cuts of one stream have the same requests, as far as both go
abbrev pub CutsAgree : Type 0
CutsAgree = (xs ys : List Message) (x y : List ℕ) → All IsRequest xs → All IsRequest ys → stream_of xs x ≡ stream_of ys y → IsPrefix xs ys ⊎ IsPrefix ys xs

-- the rest begins with no request
abbrev pub NothingLeft : Type 0
NothingLeft = (rest more : List ℕ) (r : Message) → IsRest rest → IsRequest r → rest ≡ spell r ++ more → ⊥

-- so there is one cut
abbrev pub OneCut : Type 0
OneCut = (xs ys : List Message) (x y : List ℕ) → IsCut xs x → IsCut ys y → stream_of xs x ≡ stream_of ys y → (xs ≡ ys) × (x ≡ y)

-- what may still become a request begins with no whole head whose body is refused
abbrev pub UnfinishedIsNotRefused : Type 0
UnfinishedIsNotRefused = (rest : List ℕ) (fault : SizeFault) → IsUnfinished rest → IsRefusedHead fault rest → ⊥
