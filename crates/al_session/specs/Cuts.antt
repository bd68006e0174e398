-- A served connection is a cut of the bytes that it took.
use Rattle.std.specs.Prelude.{ℕ, List, Option, ⊤}
use Rattle.al_http.specs.Requests.{IsCut, Message}
use Rattle.al_states.specs.declared.told.Told.{Told}
use Rattle.al_states.specs.Held.{Held}
use Rattle.al_session.specs.Connection.{Served}
use Rattle.al_session.specs.declared.link.Ended.{Ended}
use Rattle.al_session.specs.declared.link.Ended.TheVariants as ended

-- neither the sink nor memory nor the number of requests ended it
abbrev pub IsEndOfInput : Ended → Type 0
IsEndOfInput ended.Finished = ⊤
IsEndOfInput (ended.CutShort at) = ⊤
IsEndOfInput ended.BadHead = ⊤
IsEndOfInput ended.Unreadable = ⊤
IsEndOfInput ended.SourceFault = ⊤
IsEndOfInput ended.SinkFault = ⊥
IsEndOfInput ended.Spent = ⊥
IsEndOfInput ended.Memory = ⊥

-- then its requests and its rest are a cut
abbrev pub ServedIsCut : Type 0
ServedIsCut =
    (before after : Held) (left_now : Option (List ℕ)) (taken written : List ℕ) (end : Ended) (requests : List Message) (told : List Told) (rest : List ℕ) (behind : List (List ℕ))
    → IsEndOfInput end → Served before after left_now taken written end requests told rest behind → IsCut requests rest
