-- What one connection is: the law of serving it.
use Rattle.std.specs.Prelude.{◌≡◌, ◌⊎◌, ◌≤◌, ◌<◌, ℕ, List, [], ◌∷◌, ◌++◌, length, map, All, Option, Result, ⊤}
use Rattle.std.specs.List.{flat_map}
use mathlib.Core.List.{IsPrefix}
use Rattle.al_base.specs.Causes.{Left, Wrote, IsAtEnd}
use Rattle.al_eval.specs.State.{State}
use Rattle.al_block.specs.declared.block.Block.{Block}
use Rattle.al_block.specs.Block.{IsBlock}
use Rattle.al_answers.specs.Answers.{answer_text, memory_answer, nothing, refusal}
use Rattle.al_answers.specs.declared.answer.Answer.{Answer}
use Rattle.al_answers.specs.declared.answer.ErrorName.{ErrorName}
use Rattle.al_answers.specs.declared.answer.ErrorName.TheVariants as errors
use Rattle.al_http.specs.Requests.{GoesOn, IsBadHead, IsClosed, IsOpen, IsRefusedHead, Message, IsRequest, stream_of, IsUnfinished}
use Rattle.al_http.specs.declared.asking.SizeFault.{SizeFault}
use Rattle.al_http.specs.declared.asking.SizeFault.TheVariants as sizes
use Rattle.al_routes.specs.Asks.{Asks, IsMemory}
use Rattle.al_routes.specs.declared.request.FormFault.{FormFault}
use Rattle.al_routes.specs.declared.request.Request.{Request}
use Rattle.al_session.specs.declared.inbox.Stop.{Stop}
use Rattle.al_session.specs.declared.inbox.Stop.TheVariants as stops
use Rattle.al_session.specs.declared.link.Ended.{Ended}
use Rattle.al_session.specs.declared.link.Ended.TheVariants as ended
use Rattle.al_states.specs.declared.told.Told.{Told}
use Rattle.al_states.specs.Held.{Held}
use Rattle.al_states.specs.Replies.{taken, IsAnswer}

-- ---- the answers

-- the bytes of an answer
abbrev pub told_text : Told → List ℕ
told_text t = answer_text t.answer

-- an answer to what a message asks, or to the first fault of its method and target, or to want of memory
abbrev pub IsToldOf : State → List Block → ℕ → Message → Told → Type 0
IsToldOf o blocks low m t = (asked : Result Request FormFault) × (IsMemory asked ⊎ Asks m.head.method m.head.target asked) × IsAnswer o blocks low asked m.body t

-- one answer for each message, in order; the fronts do not fall
abbrev pub Answers : State → List Block → ℕ → List Message → List Told → Type 0
Answers o blocks low [] [] = ⊤
Answers o blocks low (m ∷ ms) (t ∷ ts) = IsToldOf o blocks low m t × Answers o blocks t.front ms ts
Answers o blocks low [] (t ∷ ts) = ⊥
Answers o blocks low (m ∷ ms) [] = ⊥

-- the front of the last answer, or the one before all
abbrev pub last_front : ℕ → List Told → ℕ
last_front low [] = low
last_front low (t ∷ ts) = last_front t.front ts

-- the blocks stay, or the block that the body spells is the last one, and the answer says so or that there was no memory for it
abbrev pub GrowsBy : List ℕ → List Block → List Block → Answer → Type 0
GrowsBy body before after a = (after ≡ before) ⊎ ((b : Block) × IsBlock body b × (after ≡ before ++ b ∷ []) × ((a ≡ taken (length after) (length after)) ⊎ (a ≡ memory_answer)))

-- the blocks grow by the posted blocks that were taken, in order, and by no others
abbrev pub Grow : List Block → List Message → List Told → List Block → Type 0
Grow before [] [] after = after ≡ before
Grow before (m ∷ ms) (t ∷ ts) after = (mid : List Block) × GrowsBy m.body before mid t.answer × Grow mid ms ts after
Grow before [] (t ∷ ts) after = ⊥
Grow before (m ∷ ms) [] after = ⊥

-- ---- while it is served

-- waiting is what was taken and not answered yet
pub record Serving (before after : Held) (left_before left_now written_before written_now : Option (List ℕ)) (waiting : List ℕ) (requests : List Message) (told : List Told) : Type 0 where
  pub cut : Left left_before left_now (stream_of requests waiting)
  pub each : All IsRequest requests
  pub going : All IsOpen requests
  pub written : Wrote written_before written_now (flat_map told_text told)
  pub origin : after.origin ≡ before.origin
  pub lists : IsPrefix before.blocks after.blocks
  pub grown : Grow before.blocks requests told after.blocks
  pub answers : Answers after.origin after.blocks (length before.blocks) requests told
  pub top : last_front (length before.blocks) told ≤ length after.blocks

-- ---- its end

-- the most requests that one connection asks
abbrev pub most_requests : ℕ
most_requests = 1000000

-- the text that refuses a bad head
abbrev pub bad_head_text : List ℕ
bad_head_text = answer_text (refusal errors.BadHead nothing)

-- the name of what refuses a body
abbrev pub size_error : SizeFault → ErrorName
size_error sizes.Coding = errors.Coding
size_error sizes.BadLength = errors.BadLength
size_error sizes.TooLarge = errors.TooLarge

-- the text that refuses a body
abbrev pub refused_text : SizeFault → List ℕ
refused_text fault = answer_text (refusal (size_error fault) nothing)

-- no request before the last ends the connection, and the last only where the connection finished or its answer could not be written
abbrev pub AreOpen : Ended → List Message → Type 0
AreOpen ended.Finished requests = GoesOn requests
AreOpen ended.SinkFault requests = GoesOn requests
AreOpen (ended.CutShort at) requests = All IsOpen requests
AreOpen ended.BadHead requests = All IsOpen requests
AreOpen ended.Unreadable requests = All IsOpen requests
AreOpen ended.SourceFault requests = All IsOpen requests
AreOpen ended.Spent requests = All IsOpen requests
AreOpen ended.Memory requests = All IsOpen requests

-- a piece that is refused, and the text that refuses it
abbrev pub IsRefusal : List ℕ → List (List ℕ) → Type 0
IsRefusal rest behind = (IsBadHead rest × (behind ≡ bad_head_text ∷ [])) ⊎ ((fault : SizeFault) × IsRefusedHead fault rest × (behind ≡ refused_text fault ∷ []))

-- the text is written and the connection ends so, or the sink failed
abbrev pub RefusesBy : List ℕ → Ended → Option (List ℕ) → Option (List ℕ) → Ended → Type 0
RefusesBy text ending before now end =
    ((end ≡ ending) × Wrote before now text)
    ⊎ ((end ≡ ended.SinkFault) × ((part : List ℕ) × IsPrefix part text × Wrote before now part))

-- how it ends where taking stopped: by the bytes taken and how many of them wait, and what is written then
abbrev pub EndsBy : Stop → ℕ → ℕ → Option (List ℕ) → Option (List ℕ) → Ended → Type 0
EndsBy stops.End taken waiting before now end = (now ≡ before) × (((waiting ≡ 0) × (end ≡ ended.Finished)) ⊎ ((0 < waiting) × (end ≡ ended.CutShort taken)))
EndsBy stops.Fault taken waiting before now end = (now ≡ before) × (end ≡ ended.SourceFault)
EndsBy stops.BadHead taken waiting before now end = RefusesBy bad_head_text ended.BadHead before now end
EndsBy (stops.Refused fault) taken waiting before now end = RefusesBy (refused_text fault) ended.Unreadable before now end
EndsBy stops.Memory taken waiting before now end = (now ≡ before) × (end ≡ ended.Memory)

-- why it ended, by the rest of the taken bytes, and which text stands behind the answers
abbrev pub EndsAs : Ended → Option (List ℕ) → List ℕ → List Message → List ℕ → List (List ℕ) → Type 0
EndsAs ended.Finished left_now taken requests rest behind = (behind ≡ []) × (((rest ≡ []) × All IsOpen requests × IsAtEnd left_now) ⊎ IsClosed requests)
EndsAs (ended.CutShort at) left_now taken requests rest behind = (behind ≡ []) × (0 < length rest) × IsUnfinished rest × IsAtEnd left_now × (at ≡ length taken)
EndsAs ended.BadHead left_now taken requests rest behind = IsBadHead rest × (behind ≡ bad_head_text ∷ [])
EndsAs ended.Unreadable left_now taken requests rest behind = (fault : SizeFault) × IsRefusedHead fault rest × (behind ≡ refused_text fault ∷ [])
EndsAs ended.SourceFault left_now taken requests rest behind = (behind ≡ []) × IsUnfinished rest
EndsAs ended.SinkFault left_now taken requests rest behind = (behind ≡ []) ⊎ IsRefusal rest behind
EndsAs ended.Spent left_now taken requests rest behind = (behind ≡ []) × (length requests ≡ most_requests)
EndsAs ended.Memory left_now taken requests rest behind = behind ≡ []

-- whole texts, and a front of the last
abbrev pub IsPartOf : List ℕ → List (List ℕ) → Type 0
IsPartOf written texts = (whole : List (List ℕ)) × (last part : List ℕ) × (texts ≡ whole ++ last ∷ []) × IsPrefix part last × (written ≡ flat_map (λ text. text) whole ++ part)

-- the texts are written whole, but for the last where the sink failed
abbrev pub IsWritten : Ended → List ℕ → List (List ℕ) → Type 0
IsWritten ended.SinkFault written texts = IsPartOf written texts
IsWritten ended.Finished written texts = written ≡ flat_map (λ text. text) texts
IsWritten (ended.CutShort at) written texts = written ≡ flat_map (λ text. text) texts
IsWritten ended.BadHead written texts = written ≡ flat_map (λ text. text) texts
IsWritten ended.Unreadable written texts = written ≡ flat_map (λ text. text) texts
IsWritten ended.SourceFault written texts = written ≡ flat_map (λ text. text) texts
IsWritten ended.Spent written texts = written ≡ flat_map (λ text. text) texts
IsWritten ended.Memory written texts = written ≡ flat_map (λ text. text) texts

-- the whole law of one connection, over its requests, their answers, the rest of the bytes, and the text behind the answers
pub record Served (before after : Held) (left_now : Option (List ℕ)) (taken written : List ℕ) (end : Ended) (requests : List Message) (told : List Told) (rest : List ℕ) (behind : List (List ℕ)) : Type 0 where
  pub cut : taken ≡ stream_of requests rest
  pub each : All IsRequest requests
  pub going : AreOpen end requests
  pub texts : IsWritten end written (map told_text told ++ behind)
  pub ends : EndsAs end left_now taken requests rest behind
  pub origin : after.origin ≡ before.origin
  pub lists : IsPrefix before.blocks after.blocks
  pub grown : Grow before.blocks requests told after.blocks
  pub answers : Answers after.origin after.blocks (length before.blocks) requests told
  pub top : last_front (length before.blocks) told ≤ length after.blocks

-- the bytes that left the source are requests and a rest, and those that went to the sink are the answers
abbrev pub Serves : Held → Held → Option (List ℕ) → Option (List ℕ) → Option (List ℕ) → Option (List ℕ) → Ended → Type 0
Serves before after left_before left_now written_before written_now end =
    (taken : List ℕ) × (written : List ℕ) × (requests : List Message) × (told : List Told) × (rest : List ℕ) × (behind : List (List ℕ))
    × Left left_before left_now taken × Wrote written_before written_now written × Served before after left_now taken written end requests told rest behind
