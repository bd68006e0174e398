-- The answers to a request, over the blocks that are held.
use Rattle.std.specs.Prelude.{◌≡◌, ◌⊎◌, ◌≤◌, ◌<◌, ◌+◌, ℕ, suc, List, [], ◌∷◌, ◌++◌, length, take, nat_lt, nat_eq, if◌then◌else◌, unwrap_or, Option, Some, None, Result, Ok, Err}
use Rattle.al_base.specs.declared.address.Address.{Address}
use Rattle.al_base.specs.declared.key.Key.{Key}
use Rattle.al_base.specs.declared.key.Key.TheVariants as keys
use Rattle.al_msgpack.specs.declared.fault.DecodeFault.{DecodeFault}
use Rattle.al_msgpack.specs.declared.fault.DecodeFault.TheVariants as places
use Rattle.al_block.specs.declared.block.Block.{Block}
use Rattle.al_block.specs.declared.header.Field.{Field}
use Rattle.al_block.specs.declared.decoding.BlockFault.{BlockFault}
use Rattle.al_block.specs.declared.decoding.BlockFault.TheVariants as faults
use Rattle.al_block.specs.Block.{IsBlock, BlockMeans}
use Rattle.al_block.specs.Hashes.{header_hash_of}
use Rattle.al_rows.specs.Rows.{same_bytes}
use Rattle.al_rows.specs.declared.row.Row.{Row}
use Rattle.al_rows.specs.declared.row.Row.TheVariants as rows
use Rattle.al_rows.specs.declared.stored.Stored.{Stored}
use Rattle.al_overlay.specs.declared.rule.Rule.{Rule}
use Rattle.al_eval.specs.Steps.{Refusal, broken, header, pool_short, expired}
use Rattle.al_eval.specs.State.{State, step, replay, row_at, level_at}
use Rattle.al_routes.specs.declared.request.FormFault.{FormFault}
use Rattle.al_routes.specs.declared.request.FormFault.TheVariants as forms
use Rattle.al_routes.specs.declared.request.Request.{Request}
use Rattle.al_routes.specs.declared.request.Request.TheVariants as asks
use Rattle.al_online.specs.declared.stake.Stake.{Stake}
use Rattle.al_answers.specs.declared.answer.Answer.{Answer}
use Rattle.al_answers.specs.declared.answer.Answer.TheVariants as answers
use Rattle.al_answers.specs.declared.answer.ErrorName.TheVariants as errors
use Rattle.al_answers.specs.Answers.{nothing, memory_answer, refusal}
use Rattle.al_states.specs.declared.told.Told.{Told}
use Rattle.al_states.specs.Held.{Held}
use Rattle.al_states.specs.Rounds.{circulation_after, creator_after, hash_after, lookback, stake_after, totals_after}

-- ---- look-ups

-- 404: the round is above the front
abbrev pub too_new : ℕ → Answer
too_new front = answers.Refused 404 errors.TooNew (record nothing { front = Some front })

-- 404: there is no such row after the round, or none of that kind
abbrev pub no_row : ℕ → ℕ → Answer
no_row front round = answers.Refused 404 errors.NoRow (record nothing { front = Some front; round = Some round })

-- 410: the round lies too far behind the front for what consensus asks
abbrev pub below_lookback : ℕ → Answer
below_lookback front = answers.Refused 410 errors.BelowLookback (record nothing { front = Some front })

-- a look-up after a round, which is the front where none is named
abbrev pub looked_at : ℕ → Option ℕ → (ℕ → Answer) → Answer
looked_at front round shown = if nat_lt front (unwrap_or round front) then too_new front else shown (unwrap_or round front)

-- the same of what consensus asks, which goes back no more than the look-back
abbrev pub looked_back : ℕ → Option ℕ → (ℕ → Answer) → Answer
looked_back front round shown = looked_at front round (λ r. if nat_lt (r + lookback) front then below_lookback front else shown r)

-- what is there is shown, or there is no such row
abbrev pub shown_or : {A : Type 0} → ℕ → ℕ → (A → Answer) → Option A → Answer
shown_or front round show None = no_row front round
shown_or front round show (Some x) = show x

-- the account of a row
abbrev pub account_of : ℕ → ℕ → ℕ → Row → Answer
account_of front round level (rows.Account r) = answers.Account front round level r
account_of front round level row = no_row front round

-- what an account has of an asset, by a row
abbrev pub asset_of : ℕ → ℕ → Row → Answer
asset_of front round (rows.Asset r) = answers.Asset front round r
asset_of front round row = no_row front round

-- what an account has of an application, by a row
abbrev pub app_of : ℕ → ℕ → Row → Answer
app_of front round (rows.App r) = answers.App front round r
app_of front round row = no_row front round

-- the value of a box, by a row
abbrev pub box_of : ℕ → ℕ → Row → Answer
box_of front round (rows.Box r) = answers.BoxOf front round r.value
box_of front round row = no_row front round

-- what consensus is told of an account
abbrev pub online_of : ℕ → ℕ → Stake → Answer
online_of front round s = answers.Online front round s.stake s.first s.last s.dilution

-- the row under a key after a round, and what it shows
abbrev pub looked_row : State → List Block → Key → Option ℕ → (ℕ → Row → Answer) → Answer
looked_row o blocks key round show = looked_at (length blocks) round (λ r. shown_or (length blocks) r (λ (s : Stored). show r s.row) (row_at o blocks r key))

-- an account after a round
abbrev pub looked : State → List Block → Address → Option ℕ → Answer
looked o blocks who round = looked_row o blocks (keys.Account who) round (λ r. account_of (length blocks) r (level_at o blocks r))

-- the creator of an asset or an application after a round
abbrev pub looked_creator : State → List Block → ℕ → Option ℕ → Answer
looked_creator o blocks id round = looked_at (length blocks) round (λ r. shown_or (length blocks) r (answers.Creator (length blocks) r) (creator_after o blocks r id))

-- the money of all accounts after a round
abbrev pub looked_supply : State → List Block → Option ℕ → Answer
looked_supply o blocks round = looked_at (length blocks) round (λ r. shown_or (length blocks) r (answers.Supply (length blocks) r) (totals_after o blocks r))

-- the stake of an account after a round
abbrev pub looked_online : State → List Block → Address → Option ℕ → Answer
looked_online o blocks who round = looked_back (length blocks) round (λ r. shown_or (length blocks) r (online_of (length blocks) r) (stake_after o blocks r who))

-- the stake after a round that may take part in the vote of another, which is the farthest that looks back to it where none is named
abbrev pub looked_circulation : State → List Block → Option ℕ → Option ℕ → Answer
looked_circulation o blocks round vote =
    looked_back (length blocks) round (λ r. let v = unwrap_or vote (r + lookback) in shown_or (length blocks) r (answers.Circulation (length blocks) r v) (circulation_after o blocks r v))

-- the front, the first round that is shown, and the hash of the last block, or of the origin where there is none
abbrev pub standing : State → List Block → Answer
standing o blocks = shown_or (length blocks) 0 (answers.Standing (length blocks) 0) (hash_after o blocks)

-- ---- requests that ask nothing

-- 400, 404, 405: the first fault of a method and a target
abbrev pub form_answer : FormFault → Answer
form_answer forms.BadAddress = refusal errors.BadAddress nothing
form_answer forms.BadId = refusal errors.BadId nothing
form_answer forms.BadBox = refusal errors.BadBox nothing
form_answer forms.BadQuery = refusal errors.BadQuery nothing
form_answer forms.NoRoute = refusal errors.NoRoute nothing
form_answer forms.Method = refusal errors.Method nothing
form_answer forms.Memory = memory_answer

-- ---- posted bytes that spell no block

-- 400: the place of the first fault
abbrev pub misspelled : DecodeFault → Answer
misspelled (places.Truncated at) = answers.Refused 400 errors.Truncated (record nothing { at = Some at })
misspelled (places.Malformed at) = answers.Refused 400 errors.Malformed (record nothing { at = Some at })
misspelled (places.Trailing at) = answers.Refused 400 errors.Trailing (record nothing { at = Some at })
misspelled places.Memory = memory_answer

-- 400: the first fault, by its place or by the name of its field
abbrev pub undecodable : BlockFault → Answer
undecodable (faults.Decode f) = misspelled f
undecodable (faults.Field name) = answers.Refused 400 errors.Field (record nothing { name = Some name })
undecodable (faults.Range name) = answers.Refused 400 errors.Range (record nothing { name = Some name })
undecodable faults.Memory = memory_answer

-- ---- posted blocks

-- 200: the block of this round stands in the chain
abbrev pub taken : ℕ → ℕ → Answer
taken front round = answers.Taken front round

-- 409: neither in the chain nor next
abbrev pub wrong_round : ℕ → Answer
wrong_round front = answers.Refused 409 errors.WrongRound (record nothing { front = Some front; next = Some (suc front) })

-- 409: another block of its round is kept, with this hash
abbrev pub fork : ℕ → List ℕ → Answer
fork front kept = answers.Refused 409 errors.Fork (record nothing { front = Some front; kept = Some kept })

-- 409: it does not continue the last block, which has this hash
abbrev pub wrong_prev : ℕ → List ℕ → Answer
wrong_prev front kept = answers.Refused 409 errors.WrongPrev (record nothing { front = Some front; kept = Some kept })

-- 422: a header field is not what is due
abbrev pub wrong_header : ℕ → Field → Answer
wrong_header front field = answers.Refused 422 errors.Header (record nothing { front = Some front; field = Some field })

-- 422: the pool could not pay what the units have earned
abbrev pub short : ℕ → Answer
short front = answers.Refused 422 errors.PoolShort (record nothing { front = Some front })

-- 422: the keys of the account at a place of the list have not expired
abbrev pub not_expired : ℕ → ℕ → Answer
not_expired front place = answers.Refused 422 errors.Expired (record nothing { front = Some front; place = Some place })

-- 422: a broken rule with its values; rule 42 keeps whose balance it is, and does not show it
abbrev pub broken_at : ℕ → ℕ → Rule → Answer
broken_at front place rule =
    answers.Refused 422 errors.Broken (record nothing { front = Some front; place = Some place; rule = Some rule.number; has = rule.has; needs = rule.needs; until = rule.until; id = rule.id; who = if nat_eq rule.number 42 then None else rule.who })

-- the refusal by the step, or none where it takes the block
abbrev pub refused : ℕ → Result State Refusal → Option Answer
refused front (Ok s) = None
refused front (Err (broken place rule)) = Some (broken_at front place rule)
refused front (Err (header field)) = Some (wrong_header front field)
refused front (Err (pool_short pool owed)) = Some (short front)
refused front (Err (expired place)) = Some (not_expired front place)

-- the refusal of a block of the next round, or none where it is taken
abbrev pub judged : ℕ → State → Block → Option Answer
judged front s b = if same_bytes b.header.prev (header_hash_of s.header) then refused front (step s b) else Some (wrong_prev front (header_hash_of s.header))

-- the blocks have this one at a round; the first is of round 1
abbrev pub IsBlockOf : List Block → ℕ → Block → Type 0
IsBlockOf blocks round b = (front : List Block) × (behind : List Block) × (blocks ≡ front ++ b ∷ behind) × (round ≡ suc (length front))

-- the block's round is neither kept nor next
abbrev pub IsOutside : List Block → Block → Answer → Type 0
IsOutside blocks b a = ((b.header.round ≡ 0) ⊎ (suc (length blocks) < b.header.round)) × (a ≡ wrong_round (length blocks))

-- a block of the round is kept: these bytes spell it, or they are a fork
abbrev pub IsRepeated : List Block → List ℕ → ℕ → Answer → Type 0
IsRepeated blocks body round a =
    (kept : Block) × IsBlockOf blocks round kept
    × ((IsBlock body kept × (a ≡ taken (length blocks) round)) ⊎ ((IsBlock body kept → ⊥) × (a ≡ fork (length blocks) (header_hash_of kept.header))))

-- its round is the next: it is refused over the state after the blocks
abbrev pub IsJudged : State → List Block → Block → Answer → Type 0
IsJudged o blocks b a = (b.header.round ≡ suc (length blocks)) × ((s : State) × (replay o blocks ≡ Ok s) × (judged (length blocks) s b ≡ Some a))

-- the answer to posted bytes: their first fault, or where the block that they spell stands
abbrev pub Posts : State → List Block → List ℕ → Answer → Type 0
Posts o blocks body a =
    ((f : BlockFault) × BlockMeans body (Err f) × (a ≡ undecodable f))
    ⊎ ((b : Block) × IsBlock body b × (IsOutside blocks b a ⊎ IsRepeated blocks body b.header.round a ⊎ IsJudged o blocks b a))

-- ---- requests

-- the answer to what is asked is this one
abbrev pub RepliesTo : State → List Block → Request → List ℕ → Answer → Type 0
RepliesTo o blocks asks.Post body a = Posts o blocks body a
RepliesTo o blocks (asks.Account who round) body a = a ≡ looked o blocks who round
RepliesTo o blocks (asks.Asset who id round) body a = a ≡ looked_row o blocks (keys.Resource who id) round (asset_of (length blocks))
RepliesTo o blocks (asks.App who id round) body a = a ≡ looked_row o blocks (keys.Resource who id) round (app_of (length blocks))
RepliesTo o blocks (asks.BoxOf app name round) body a = a ≡ looked_row o blocks (keys.Box app name) round (box_of (length blocks))
RepliesTo o blocks (asks.Creator id round) body a = a ≡ looked_creator o blocks id round
RepliesTo o blocks (asks.Online who round) body a = a ≡ looked_online o blocks who round
RepliesTo o blocks (asks.Circulation round vote) body a = a ≡ looked_circulation o blocks round vote
RepliesTo o blocks (asks.Supply round) body a = a ≡ looked_supply o blocks round
RepliesTo o blocks asks.Standing body a = a ≡ standing o blocks

-- the answer to a request: a fault of form is told without a look at the blocks
abbrev pub Replies : State → List Block → Result Request FormFault → List ℕ → Answer → Type 0
Replies o blocks (Ok ask) body a = RepliesTo o blocks ask body a
Replies o blocks (Err fault) body a = a ≡ form_answer fault

-- An answer with its front, which is at least low and counts some of the blocks: it is the reply over the blocks up to the front, or there was no memory
pub record IsAnswer (o : State) (blocks : List Block) (low : ℕ) (asked : Result Request FormFault) (body : List ℕ) (t : Told) : Type 0 where
  pub low_is : low ≤ t.front
  pub within : t.front ≤ length blocks
  pub reply : Replies o (take t.front blocks) asked body t.answer ⊎ (t.answer ≡ memory_answer)

-- the blocks stay, or the block that the body spells is the last one, and the answer says so
abbrev pub Grows : List ℕ → List Block → List Block → Answer → Type 0
Grows body before after a = (after ≡ before) ⊎ ((b : Block) × IsBlock body b × (after ≡ before ++ b ∷ []) × (a ≡ taken (length after) (length after)))

-- one request is answered
pub record IsAnswered (before after : Held) (asked : Result Request FormFault) (body : List ℕ) (t : Told) : Type 0 where
  pub origin : after.origin ≡ before.origin
  pub grows : Grows body before.blocks after.blocks t.answer
  pub front : t.front ≡ length after.blocks
  pub told : IsAnswer after.origin after.blocks (length before.blocks) asked body t
