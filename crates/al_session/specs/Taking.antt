-- What taking from a source says: of the bytes that wait, before and after, and of the source.
use Rattle.std.specs.Prelude.{◌≡◌, ◌≤◌, ◌<◌, ◌⊎◌, ℕ, List, ◌++◌, length, Option, Result, Ok, Err}
use Rattle.httparse.specs.Grammar.{RequestHead, print_request}
use Rattle.al_base.specs.Causes.{Left, IsAtEnd, Rose}
use Rattle.al_http.specs.declared.head.Head.{Head}
use Rattle.al_routes.specs.Asks.{Asks, IsMemory}
use Rattle.al_http.specs.Requests.{Message, IsRequest, IsRefusedHead, closes, spell, IsUnfinished, IsBadHead}
use Rattle.al_http.specs.Heads.{IsHeadAt}
use Rattle.al_session.specs.declared.inbox.Piece.{Piece}
use Rattle.al_session.specs.declared.inbox.Stop.{Stop}
use Rattle.al_session.specs.declared.inbox.Stop.TheVariants as stops

-- the bytes that wait are the old ones and what left the source
pub record Grown (old new : List ℕ) (before now : Option (List ℕ)) : Type 0 where
  pub got : List ℕ
  pub more : new ≡ old ++ got
  pub left : Left before now got

-- Why taking stopped: the bytes that wait are unfinished at the source's end and where it failed, and they are a piece that is refused where one was; without memory bytes may have left the source that do not wait
abbrev pub Stops : (List ℕ → Type 0) → (Stop → List ℕ → Type 0) → List ℕ → List ℕ → Option (List ℕ) → Option (List ℕ) → Stop → Type 0
Stops unfinished refused old new before now stops.End = Grown old new before now × unfinished new × IsAtEnd now
Stops unfinished refused old new before now stops.Fault = Grown old new before now × unfinished new
Stops unfinished refused old new before now stops.BadHead = Grown old new before now × refused stops.BadHead new
Stops unfinished refused old new before now (stops.Refused fault) = Grown old new before now × refused (stops.Refused fault) new
Stops unfinished refused old new before now stops.Memory = (got : List ℕ) × Left before now got

-- the source's count of faults rises where its fault stopped the call, and nowhere else
abbrev pub IsCounted : {A : Type 0} → ℕ → ℕ → Result A Stop → Type 0
IsCounted before now (Ok x) = now ≡ before
IsCounted before now (Err stops.End) = now ≡ before
IsCounted before now (Err stops.Fault) = Rose before now
IsCounted before now (Err stops.BadHead) = now ≡ before
IsCounted before now (Err (stops.Refused fault)) = now ≡ before
IsCounted before now (Err stops.Memory) = now ≡ before

-- no piece was refused
abbrev pub IsNoPiece : Stop → List ℕ → Type 0
IsNoPiece stop bytes = ⊥

-- no piece was refused but a bad head
abbrev pub IsNoHead : Stop → List ℕ → Type 0
IsNoHead stops.BadHead bytes = IsBadHead bytes
IsNoHead stop bytes = ⊥

-- the piece at the front is refused: a bad head, or a whole one whose body is not read
abbrev pub IsRefusedPiece : Stop → List ℕ → Type 0
IsRefusedPiece stops.BadHead bytes = IsBadHead bytes
IsRefusedPiece (stops.Refused fault) bytes = IsRefusedHead fault bytes
IsRefusedPiece stop bytes = ⊥

-- one take: more bytes wait, or none
abbrev pub Fills : {A : Type 0} → List ℕ → List ℕ → Option (List ℕ) → Option (List ℕ) → Result A Stop → Type 0
Fills old new before now (Ok x) = (got : List ℕ) × (0 < length got) × (new ≡ old ++ got) × Left before now got
Fills old new before now (Err stop) = Stops (λ bytes. bytes ≡ old) IsNoPiece old new before now stop

-- a whole head is at the front
abbrev pub HeadNexts : List ℕ → List ℕ → Option (List ℕ) → Option (List ℕ) → Result Head Stop → Type 0
HeadNexts old new before now (Ok head) = Grown old new before now × ((h : RequestHead) × IsHeadAt new head h)
HeadNexts old new before now (Err stop) = Stops IsUnfinished IsNoHead old new before now stop

-- as many bytes as are needed wait
abbrev pub Waits : {A : Type 0} → List ℕ → List ℕ → Option (List ℕ) → Option (List ℕ) → ℕ → Result A Stop → Type 0
Waits old new before now need (Ok x) = Grown old new before now × (need ≤ length new)
Waits old new before now need (Err stop) = Stops (λ bytes. length bytes < need) IsNoPiece old new before now stop

-- the request at the front is whole, and this is what it asks, unless memory was short for that
abbrev pub IsPiece : List ℕ → Piece → Type 0
IsPiece bytes p =
    (m : Message) × (rest : List ℕ) × IsRequest m × (IsMemory p.asked ⊎ Asks m.head.method m.head.target p.asked) × (p.close ≡ closes m) × (p.used ≡ length (print_request m.head)) × (p.size ≡ length m.body) × (bytes ≡ spell m ++ rest)

-- the next piece: a request at the front, or why there is none
abbrev pub Nexts : List ℕ → List ℕ → Option (List ℕ) → Option (List ℕ) → Result Piece Stop → Type 0
Nexts old new before now (Ok piece) = Grown old new before now × IsPiece new piece
Nexts old new before now (Err stop) = Stops IsUnfinished IsRefusedPiece old new before now stop
