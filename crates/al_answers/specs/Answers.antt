-- The bytes of answers: a status line, two fields, and one JSON object (RFC 8259) without white space, its keys in byte order.
use Rattle.std.specs.Prelude.{ℕ, ◌==◌, ◌+◌, ◌^◌, ◌<◌, List, [], ◌∷◌, ◌++◌, length, decimal, codes, if◌then◌else◌}
use Rattle.std.specs.declared.option.Option.{Option}
use Rattle.std.specs.declared.option.Option.TheVariants.{None}
use Rattle.serde_json.specs.Data.{object}
use Rattle.serde_json.specs.Written.{compact_text}
use Rattle.al_rewards.specs.declared.totals.Totals.{Totals}
use Rattle.al_rows.specs.Rows.{CountsInRange}
use Rattle.al_answers.specs.HeaderFields.{field_text}
use Rattle.al_answers.specs.Json.{Json, Table, whole, text, fields, members_of, object_of, hex_of, address_of, hash_of, if_known}
use Rattle.al_answers.specs.Objects.{account_of, asset_of, app_of}
use Rattle.al_answers.specs.declared.answer.Answer.{Answer}
use Rattle.al_answers.specs.declared.answer.Answer.TheVariants as answers
use Rattle.al_answers.specs.declared.answer.ErrorName.{ErrorName}
use Rattle.al_answers.specs.declared.answer.ErrorName.TheVariants as errors
use Rattle.al_answers.specs.declared.answer.More.{More}

-- ---- refusals

abbrev pub nothing : More
nothing = record { front = None; round = None; floor = None; next = None; at = None; place = None; rule = None; has = None; needs = None; until = None; id = None; who = None; kept = None; name = None; field = None }

unfoldable pub error_text : ErrorName → List ℕ
error_text errors.BadHead = codes "BadHead"
error_text errors.BadLength = codes "BadLength"
error_text errors.Coding = codes "Coding"
error_text errors.TooLarge = codes "TooLarge"
error_text errors.NoRoute = codes "NoRoute"
error_text errors.Method = codes "Method"
error_text errors.BadAddress = codes "BadAddress"
error_text errors.BadId = codes "BadId"
error_text errors.BadBox = codes "BadBox"
error_text errors.BadQuery = codes "BadQuery"
error_text errors.Truncated = codes "Truncated"
error_text errors.Malformed = codes "Malformed"
error_text errors.Trailing = codes "Trailing"
error_text errors.Field = codes "Field"
error_text errors.Range = codes "Range"
error_text errors.NoRow = codes "NoRow"
error_text errors.TooNew = codes "TooNew"
error_text errors.WrongRound = codes "WrongRound"
error_text errors.Fork = codes "Fork"
error_text errors.WrongPrev = codes "WrongPrev"
error_text errors.BelowFloor = codes "BelowFloor"
error_text errors.BelowLookback = codes "BelowLookback"
error_text errors.Broken = codes "Broken"
error_text errors.Header = codes "Header"
error_text errors.PoolShort = codes "PoolShort"
error_text errors.Expired = codes "Expired"
error_text errors.KeeperFault = codes "KeeperFault"
error_text errors.BlockFault = codes "BlockFault"
error_text errors.Memory = codes "Memory"

abbrev pub number_if_known : Option ℕ → Json
number_if_known = if_known (λ n. whole n)

abbrev pub refused_of : ErrorName → More → Table
refused_of error m =
    (codes "at", number_if_known m.at) ∷
    (codes "error", text (error_text error)) ∷
    (codes "field", if_known (λ f. text (field_text f)) m.field) ∷
    (codes "floor", number_if_known m.floor) ∷
    (codes "front", number_if_known m.front) ∷
    (codes "has", number_if_known m.has) ∷
    (codes "id", number_if_known m.id) ∷
    (codes "kept", if_known hash_of m.kept) ∷
    (codes "name", if_known hex_of m.name) ∷
    (codes "needs", number_if_known m.needs) ∷
    (codes "next", number_if_known m.next) ∷
    (codes "place", number_if_known m.place) ∷
    (codes "round", number_if_known m.round) ∷
    (codes "rule", number_if_known m.rule) ∷
    (codes "until", number_if_known m.until) ∷
    (codes "who", if_known address_of m.who) ∷
    []

-- ---- stake and money

-- a voter's stake, the rounds in which its keys vote, and their dilution
abbrev pub online_of : ℕ → ℕ → ℕ → ℕ → Table
online_of stake first last dilution =
    (codes "first", whole first) ∷
    (codes "key_dilution", whole dilution) ∷
    (codes "last", whole last) ∷
    (codes "stake", whole stake) ∷
    []

-- all money, that of each status together
abbrev pub sum_of : Totals → ℕ
sum_of t = t.online.money + t.offline.money + t.apart.money

abbrev pub supply_of : Totals → Table
supply_of t =
    (codes "not_participating", whole t.apart.money) ∷
    (codes "offline", whole t.offline.money) ∷
    (codes "online", whole t.online.money) ∷
    (codes "sum", whole (sum_of t)) ∷
    []

-- ---- answers

abbrev pub rounds_of : ℕ → ℕ → Table
rounds_of front round =
    (codes "front", whole front) ∷
    (codes "round", whole round) ∷
    []

-- what is shown under a name, beside the front and the round
abbrev pub shown_at : List ℕ → Json → ℕ → ℕ → Table
shown_at name shown front round = (name, shown) ∷ rounds_of front round

abbrev pub circulation_of : ℕ → ℕ → ℕ → ℕ → Table
circulation_of front round vote money =
    (codes "circulation", whole money) ∷
    (codes "front", whole front) ∷
    (codes "round", whole round) ∷
    (codes "vote", whole vote) ∷
    []

abbrev pub standing_of : ℕ → ℕ → List ℕ → Table
standing_of front floor hash =
    (codes "floor", whole floor) ∷
    (codes "front", whole front) ∷
    (codes "hash", hash_of hash) ∷
    []

abbrev pub body_of : Answer → Table
body_of (answers.Taken front round) = rounds_of front round
body_of (answers.Account front round level row) = shown_at (codes "account") (object_of (account_of level row)) front round
body_of (answers.Asset front round row) = shown_at (codes "asset") (object_of (asset_of row)) front round
body_of (answers.App front round row) = shown_at (codes "app") (object_of (app_of row)) front round
body_of (answers.BoxOf front round value) = shown_at (codes "box") (hex_of value) front round
body_of (answers.Creator front round address) = shown_at (codes "creator") (address_of address) front round
body_of (answers.Online front round stake first last dilution) = shown_at (codes "online") (object_of (online_of stake first last dilution)) front round
body_of (answers.Circulation front round vote money) = circulation_of front round vote money
body_of (answers.Supply front round totals) = shown_at (codes "supply") (object_of (supply_of totals)) front round
body_of (answers.Standing front floor hash) = standing_of front floor hash
body_of (answers.Refused status error more) = refused_of error more

-- an account row that is shown has its counts in their range, and the sum of money that is shown is of 64 bits
abbrev pub IsSound : Answer → Type 0
IsSound (answers.Taken front round) = Unit {0}
IsSound (answers.Account front round level row) = CountsInRange row
IsSound (answers.Asset front round row) = Unit {0}
IsSound (answers.App front round row) = Unit {0}
IsSound (answers.BoxOf front round value) = Unit {0}
IsSound (answers.Creator front round address) = Unit {0}
IsSound (answers.Online front round stake first last dilution) = Unit {0}
IsSound (answers.Circulation front round vote money) = Unit {0}
IsSound (answers.Supply front round totals) = sum_of totals < 2 ^ 64
IsSound (answers.Standing front floor hash) = Unit {0}
IsSound (answers.Refused status error more) = Unit {0}

abbrev pub status_of : Answer → ℕ
status_of (answers.Taken front round) = 200
status_of (answers.Account front round level row) = 200
status_of (answers.Asset front round row) = 200
status_of (answers.App front round row) = 200
status_of (answers.BoxOf front round value) = 200
status_of (answers.Creator front round address) = 200
status_of (answers.Online front round stake first last dilution) = 200
status_of (answers.Circulation front round vote money) = 200
status_of (answers.Supply front round totals) = 200
status_of (answers.Standing front floor hash) = 200
status_of (answers.Refused status error more) = status

-- the phrases of RFC 9110
abbrev pub phrases : List (ℕ × List ℕ)
phrases = (200, codes "OK") ∷ (400, codes "Bad Request") ∷ (404, codes "Not Found") ∷ (405, codes "Method Not Allowed") ∷ (409, codes "Conflict") ∷ (410, codes "Gone") ∷ (413, codes "Payload Too Large") ∷ (422, codes "Unprocessable Entity") ∷ (501, codes "Not Implemented") ∷ (503, codes "Service Unavailable") ∷ (507, codes "Insufficient Storage") ∷ []

abbrev pub phrase_in : ℕ → List (ℕ × List ℕ) → List ℕ
phrase_in status [] = []
phrase_in status (p ∷ ps) = if status == p.0 then p.1 else phrase_in status ps

unfoldable pub phrase_of : ℕ → List ℕ
phrase_of status = phrase_in status phrases

abbrev pub line_end : List ℕ
line_end = 13 ∷ 10 ∷ []

-- the status line, and the type of the body
abbrev pub head_of : ℕ → List ℕ
head_of status = codes "HTTP/1.1 " ++ decimal status ++ codes " " ++ phrase_of status ++ line_end ++ codes "content-type: application/json" ++ line_end

-- the length of the body, and the body
abbrev pub rest_of : List ℕ → List ℕ
rest_of body = codes "content-length: " ++ decimal (length body) ++ line_end ++ line_end ++ body

unfoldable pub answer_text : Answer → List ℕ
answer_text a = head_of (status_of a) ++ rest_of (compact_text (object (members_of (fields (body_of a)))))

-- the status of a refusal, by its name
abbrev pub error_status : ErrorName → ℕ
error_status errors.BadHead = 400
error_status errors.BadLength = 400
error_status errors.Coding = 501
error_status errors.TooLarge = 413
error_status errors.NoRoute = 404
error_status errors.Method = 405
error_status errors.BadAddress = 400
error_status errors.BadId = 400
error_status errors.BadBox = 400
error_status errors.BadQuery = 400
error_status errors.Truncated = 400
error_status errors.Malformed = 400
error_status errors.Trailing = 400
error_status errors.Field = 400
error_status errors.Range = 400
error_status errors.NoRow = 404
error_status errors.TooNew = 404
error_status errors.WrongRound = 409
error_status errors.Fork = 409
error_status errors.WrongPrev = 409
error_status errors.BelowFloor = 410
error_status errors.BelowLookback = 410
error_status errors.Broken = 422
error_status errors.Header = 422
error_status errors.PoolShort = 422
error_status errors.Expired = 422
error_status errors.KeeperFault = 503
error_status errors.BlockFault = 503
error_status errors.Memory = 507

-- the refusal of this name, with what it shows
abbrev pub refusal : ErrorName → More → Answer
refusal error more = answers.Refused (error_status error) error more

-- there is no memory
abbrev pub memory_answer : Answer
memory_answer = answers.Refused 507 errors.Memory nothing
