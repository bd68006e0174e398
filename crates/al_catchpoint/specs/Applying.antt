-- A file of blocks, cut into pieces that are posted one after another.
use Rattle.std.specs.Prelude.{◌≡◌, ◌≢◌, ◌≤◌, ◌⊎◌, ℕ, List, [], ◌∷◌, ◌++◌, length, max, Result, Ok, Err, ⊤}
use Rattle.al_msgpack.specs.declared.val.Val.{Val}
use Rattle.al_msgpack.specs.Places.{IsSpelling}
use Rattle.al_states.specs.Accepting.{Accepts, IsRefused}
use Rattle.al_states.specs.Held.{Held}
use Rattle.al_states.specs.declared.accepting.Accepted.{Accepted}
use Rattle.al_states.specs.declared.accepting.AcceptRefusal.{AcceptRefusal}
use Rattle.al_states.specs.declared.accepting.AcceptRefusal.TheVariants as refusals
use Rattle.al_catchpoint.specs.declared.applying.ApplyStop.{ApplyStop}
use Rattle.al_catchpoint.specs.declared.applying.ApplyStop.TheVariants as stops

-- no value is spelled at the front with more bytes behind
abbrev pub HasNoFront : List ℕ → Type 0
HasNoFront bytes = (v : Val) (front rest : List ℕ) → IsSpelling v front → bytes ≡ front ++ rest → rest ≡ []

-- the first piece of bytes that are left, and what is left then: the spelling of a value that more bytes follow, or else all of them
abbrev pub IsFirst : List ℕ → List ℕ → List ℕ → Type 0
IsFirst bytes piece rest = (bytes ≢ []) × (((v : Val) × IsSpelling v piece × (bytes ≡ piece ++ rest) × (rest ≢ [])) ⊎ (HasNoFront bytes × (piece ≡ bytes) × (rest ≡ [])))

-- bytes cut into pieces, and what is left behind them
abbrev pub AreCut : List ℕ → List (List ℕ) → List ℕ → Type 0
AreCut bytes [] rest = bytes ≡ rest
AreCut bytes (p ∷ ps) rest = (more : List ℕ) × IsFirst bytes p more × AreCut more ps rest

-- each piece is accepted, one after another
abbrev pub AreTaken : Held → List (List ℕ) → Held → Type 0
AreTaken h [] now = h ≡ now
AreTaken h (p ∷ ps) now = (m : Held) × (a : Accepted) × Accepts h m p (Ok a) × AreTaken m ps now

-- the pieces at the front of the bytes were accepted, and these bytes are left
abbrev pub Takes : Held → List ℕ → Held → List ℕ → Type 0
Takes h bytes now rest = (pieces : List (List ℕ)) × AreCut bytes pieces rest × AreTaken h pieces now

-- want of memory is no refusal of a piece
abbrev pub IsJudgement : AcceptRefusal → Type 0
IsJudgement refusals.Memory = ⊥
IsJudgement r = ⊤

-- the first piece of what is left is refused
abbrev pub IsStopped : Held → List ℕ → Type 0
IsStopped h bytes = (piece rest : List ℕ) × IsFirst bytes piece rest × (r : AcceptRefusal) × IsJudgement r × IsRefused h.origin h.blocks piece r

-- the pieces of the bytes are posted until so many blocks are held or no bytes are left; or the next piece is refused, or memory is short
abbrev pub Applies : Held → List ℕ → ℕ → Held → Result (List ℕ) ApplyStop → Type 0
Applies h bytes until now (Ok rest) = Takes h bytes now rest × (length now.blocks ≤ max until (length h.blocks)) × ((rest ≡ []) ⊎ (until ≤ length now.blocks))
Applies h bytes until now (Err stops.Refused) = (rest : List ℕ) × Takes h bytes now rest × IsStopped now rest
Applies h bytes until now (Err stops.Memory) = (rest : List ℕ) × Takes h bytes now rest

-- want of memory stops posting, and so does a refusal
abbrev pub IsStopOf : AcceptRefusal → ApplyStop → Type 0
IsStopOf r stops.Refused = IsJudgement r
IsStopOf r stops.Memory = ⊤

-- the first piece is posted; or it is refused, or memory is short, and nothing is
abbrev pub IsApplied : Held → List ℕ → Held → Result (List ℕ) ApplyStop → Type 0
IsApplied h bytes now (Ok rest) = (piece : List ℕ) × IsFirst bytes piece rest × (a : Accepted) × Accepts h now piece (Ok a)
IsApplied h bytes now (Err stops.Refused) = (now ≡ h) × IsStopped h bytes
IsApplied h bytes now (Err stops.Memory) = now ≡ h
