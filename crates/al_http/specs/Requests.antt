-- Requests on a stream, and what may stand behind the last one.
use Rattle.std.specs.Prelude.{◌≡◌, ◌⊎◌, ◌<◌, ◌≤◌, ℕ, Bool, true, false, List, [], ◌∷◌, ◌++◌, length, All, ⊤, Err}
use Rattle.std.specs.List.{flat_map}
use Rattle.httparse.specs.Grammar.{RequestHead, IsRequestHead, ReadsRequest, print_request, HasNoRequest, NeverHasRequest, EndsInTarget}
use Rattle.httparse.specs.Spans.{RequestExceeds}
use Rattle.al_http.specs.declared.asking.SizeFault.{SizeFault}
use Rattle.al_http.specs.declared.head.BodySize.TheVariants.{Length}
use Rattle.al_http.specs.Limits.{most_head, most_fields, most_body}
use Rattle.al_http.specs.Fields.{ends_after, fields_of, size_of}
use Rattle.al_http.specs.Sizes.{size_read}

-- a head within the limits of bytes and fields
pub record IsWithinLimits (h : RequestHead) : Type 0 where
  pub bytes : length (print_request h) ≤ most_head
  pub fields : length h.fields ≤ most_fields

-- a head and its body
pub record Message : Type 0 where
  pub head : RequestHead
  pub body : List ℕ

abbrev pub spell : Message → List ℕ
spell m = print_request m.head ++ m.body

-- whether the connection ends after it
abbrev pub closes : Message → Bool
closes m = ends_after m.head

-- a message that is a request: its head is within the limits, and its body is as long as the head says, and no longer than a block may be
pub record IsRequest (m : Message) : Type 0 where
  pub head : IsRequestHead m.head
  pub limits : IsWithinLimits m.head
  pub size : size_of (fields_of m.head) ≡ Length (length m.body)
  pub most : length m.body ≤ most_body

-- the requests, and then the rest
abbrev pub stream_of : List Message → List ℕ → List ℕ
stream_of requests rest = flat_map spell requests ++ rest

-- ---- what is no whole request

-- a proper front of a request
abbrev pub IsPartOfRequest : List ℕ → Type 0
IsPartOfRequest rest = (more : List ℕ) × (m : Message) × (0 < length more) × IsRequest m × (rest ++ more ≡ spell m)

-- a proper front of a head, whatever the head's limits and fields
abbrev pub IsPartOfHead : List ℕ → Type 0
IsPartOfHead rest = (more : List ℕ) × (h : RequestHead) × (0 < length more) × IsRequestHead h × (rest ++ more ≡ print_request h)

-- a head that is not whole and does not pass the limit of bytes: a front of a head, or the bytes end inside a target
pub record IsOpenHead (rest : List ℕ) : Type 0 where
  pub short : length rest ≤ most_head
  pub none : HasNoRequest rest
  pub may : IsPartOfHead rest ⊎ EndsInTarget rest

-- what may still become a request, or be refused
abbrev pub IsUnfinished : List ℕ → Type 0
IsUnfinished rest = IsPartOfRequest rest ⊎ IsOpenHead rest

-- whatever bytes follow, no head within the limits stands at the front
abbrev pub NeverHasHead : List ℕ → Type 0
NeverHasHead rest = (more : List ℕ) (h : RequestHead) (behind : List ℕ) → ReadsRequest (rest ++ more) h behind → IsWithinLimits h → ⊥

-- a bad head: the bytes are refused, or pass the limit of fields or of bytes
pub record IsBadHead (rest : List ℕ) : Type 0 where
  pub cause : NeverHasRequest rest ⊎ RequestExceeds most_fields rest ⊎ (most_head < length rest)
  pub never : NeverHasHead rest

-- a whole head within the limits whose body is not read
abbrev pub IsRefusedHead : SizeFault → List ℕ → Type 0
IsRefusedHead fault rest = (h : RequestHead) × (behind : List ℕ) × ReadsRequest rest h behind × IsWithinLimits h × (size_read (size_of (fields_of h)) ≡ Err fault)

-- behind the requests stands no request
abbrev pub IsRest : List ℕ → Type 0
IsRest rest = IsUnfinished rest ⊎ IsBadHead rest ⊎ ((fault : SizeFault) × IsRefusedHead fault rest)

-- ---- the cut of a stream

-- the connection goes on after a request
abbrev pub IsOpen : Message → Type 0
IsOpen m = closes m ≡ false

-- no request before the last ends the connection
abbrev pub GoesOn : List Message → Type 0
GoesOn [] = ⊤
GoesOn (m ∷ []) = ⊤
GoesOn (m ∷ n ∷ ms) = IsOpen m × GoesOn (n ∷ ms)

-- the last request ends the connection
abbrev pub IsClosed : List Message → Type 0
IsClosed [] = ⊥
IsClosed (m ∷ []) = closes m ≡ true
IsClosed (m ∷ n ∷ ms) = IsClosed (n ∷ ms)

-- the requests of a connection, and a rest, which is any bytes behind the request that ends the connection
pub record IsCut (requests : List Message) (rest : List ℕ) : Type 0 where
  pub each : All IsRequest requests
  pub going : GoesOn requests
  pub ends : IsRest rest ⊎ IsClosed requests
