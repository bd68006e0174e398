-- The answers to look-ups, by what these give.
use Rattle.std.specs.Prelude.{◌≡◌, ℕ, List}
use Rattle.std.specs.declared.result.Result.{Result}
use Rattle.std.specs.declared.result.Result.TheVariants.{Ok, Err}
use Rattle.std.specs.Option.{option_copied}
use Rattle.al_answers.specs.Answers.{IsSound}
use Rattle.al_answers.specs.declared.answer.Answer.{Answer}
use Rattle.al_answers.specs.declared.answer.Answer.TheVariants as answers
use Rattle.al_routes.specs.declared.request.Request.{Request}
use Rattle.al_rows.specs.declared.row.Row.{Row}
use Rattle.al_states.specs.declared.looking.CirculationAnswer.{CirculationAnswer}
use Rattle.al_states.specs.declared.looking.CreatorAnswer.{CreatorAnswer}
use Rattle.al_states.specs.declared.looking.LookRefusal.{LookRefusal}
use Rattle.al_states.specs.declared.looking.LookRefusal.TheVariants as refusals
use Rattle.al_states.specs.declared.looking.RowAnswer.{RowAnswer}
use Rattle.al_states.specs.declared.looking.StakeAnswer.{StakeAnswer}
use Rattle.al_states.specs.declared.looking.StatusAnswer.{StatusAnswer}
use Rattle.al_states.specs.declared.looking.SupplyAnswer.{SupplyAnswer}
use Rattle.al_states.specs.Held.{Held}
use Rattle.al_states.specs.Replies.{RepliesTo, account_of, app_of, asset_of, below_lookback, box_of, online_of, shown_or, too_new}

-- the answer that says why nothing is shown; for want of memory there is none
abbrev pub IsUnshown : LookRefusal → Answer → Type 0
IsUnshown (refusals.TooNew front) a = a ≡ too_new front
IsUnshown (refusals.BelowLookback front) a = a ≡ below_lookback front
IsUnshown refusals.Memory a = ⊥

-- the answer that shows what a look-up gives, or says why there is nothing
abbrev pub IsShown : {A : Type 0} → (A → Answer) → Result A LookRefusal → Answer → Type 0
IsShown show (Ok x) a = a ≡ show x
IsShown show (Err r) a = IsUnshown r a

-- a row is shown by its kind
abbrev pub row_shown : (RowAnswer → Row → Answer) → RowAnswer → Answer
row_shown show a = shown_or a.front a.round (show a) (option_copied a.row)

-- an account is shown at the reward level of the round
abbrev pub account_shown : RowAnswer → Answer
account_shown = row_shown (λ a. account_of a.front a.round a.level)

abbrev pub asset_shown : RowAnswer → Answer
asset_shown = row_shown (λ a. asset_of a.front a.round)

abbrev pub app_shown : RowAnswer → Answer
app_shown = row_shown (λ a. app_of a.front a.round)

abbrev pub box_shown : RowAnswer → Answer
box_shown = row_shown (λ a. box_of a.front a.round)

abbrev pub creator_shown : CreatorAnswer → Answer
creator_shown a = shown_or a.front a.round (answers.Creator a.front a.round) a.address

abbrev pub supply_shown : SupplyAnswer → Answer
supply_shown a = answers.Supply a.front a.round a.totals

abbrev pub stake_shown : StakeAnswer → Answer
stake_shown a = shown_or a.front a.round (online_of a.front a.round) a.stake

abbrev pub circulation_shown : CirculationAnswer → Answer
circulation_shown a = answers.Circulation a.front a.round a.vote a.money

abbrev pub status_shown : StatusAnswer → Answer
status_shown a = answers.Standing a.front a.floor a.hash

-- the answer to a look-up, which can be printed
abbrev pub IsLooked : Held → Request → Answer → Type 0
IsLooked h ask a = IsSound a × ((body : List ℕ) → RepliesTo h.origin h.blocks ask body a)
