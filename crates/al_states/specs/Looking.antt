-- What a look-up gives, over the blocks that are held.
use Rattle.std.specs.Prelude.{◌≡◌, ◌≤◌, ◌<◌, ◌+◌, ◌^◌, ℕ, length, option_map, unwrap_or, ⊤}
use Rattle.std.specs.declared.option.Option.{Option}
use Rattle.std.specs.declared.option.Option.TheVariants.{Some}
use Rattle.std.specs.declared.result.Result.{Result}
use Rattle.std.specs.declared.result.Result.TheVariants.{Ok, Err}
use Rattle.std.specs.Option.{option_copied}
use Rattle.al_answers.specs.Answers.{sum_of}
use Rattle.al_base.specs.declared.address.Address.{Address}
use Rattle.al_base.specs.declared.key.Key.{Key}
use Rattle.al_eval.specs.State.{row_at, level_at}
use Rattle.al_states.specs.declared.looking.CirculationAnswer.{CirculationAnswer}
use Rattle.al_states.specs.declared.looking.CreatorAnswer.{CreatorAnswer}
use Rattle.al_states.specs.declared.looking.LookRefusal.{LookRefusal}
use Rattle.al_states.specs.declared.looking.LookRefusal.TheVariants as refusals
use Rattle.al_states.specs.declared.looking.RowAnswer.{RowAnswer}
use Rattle.al_states.specs.declared.looking.StakeAnswer.{StakeAnswer}
use Rattle.al_states.specs.declared.looking.StatusAnswer.{StatusAnswer}
use Rattle.al_states.specs.declared.looking.SupplyAnswer.{SupplyAnswer}
use Rattle.al_states.specs.Held.{Held}
use Rattle.al_states.specs.Rounds.{circulation_after, creator_after, hash_after, lookback, stake_after, totals_after}

-- the last round
abbrev pub front_of : Held → ℕ
front_of h = length h.blocks

-- no round means the front
abbrev pub round_of : Held → Option ℕ → ℕ
round_of h round = unwrap_or round (front_of h)

-- the round that is meant, which is at most the front
abbrev pub IsRound : Held → Option ℕ → Result ℕ LookRefusal → Type 0
IsRound h round (Ok r) = (r ≡ round_of h round) × (r ≤ front_of h)
IsRound h round (Err (refusals.TooNew front)) = (front ≡ front_of h) × (front_of h < round_of h round)
IsRound h round (Err (refusals.BelowLookback front)) = ⊥
IsRound h round (Err refusals.Memory) = ⊥

-- the same of what consensus asks, which goes back no more than the look-back
abbrev pub IsRoundBack : Held → Option ℕ → Result ℕ LookRefusal → Type 0
IsRoundBack h round (Ok r) = (r ≡ round_of h round) × (r ≤ front_of h) × (front_of h ≤ r + lookback)
IsRoundBack h round (Err (refusals.TooNew front)) = (front ≡ front_of h) × (front_of h < round_of h round)
IsRoundBack h round (Err (refusals.BelowLookback front)) = (front ≡ front_of h) × (round_of h round + lookback < front_of h)
IsRoundBack h round (Err refusals.Memory) = ⊥

-- a look-up after a round: a round above the front is too new; want of memory is free
abbrev pub LooksAt : {A : Type 0} → Held → Option ℕ → (ℕ → A → Type 0) → Result A LookRefusal → Type 0
LooksAt h round Shows (Ok a) = (round_of h round ≤ front_of h) × Shows (round_of h round) a
LooksAt h round Shows (Err (refusals.TooNew front)) = (front ≡ front_of h) × (front_of h < round_of h round)
LooksAt h round Shows (Err (refusals.BelowLookback front)) = ⊥
LooksAt h round Shows (Err refusals.Memory) = ⊤

-- the same of what consensus asks: a round that lies farther back than the look-back is not shown
abbrev pub LooksBack : {A : Type 0} → Held → Option ℕ → (ℕ → A → Type 0) → Result A LookRefusal → Type 0
LooksBack h round Shows (Ok a) = (round_of h round ≤ front_of h) × (front_of h ≤ round_of h round + lookback) × Shows (round_of h round) a
LooksBack h round Shows (Err (refusals.TooNew front)) = (front ≡ front_of h) × (front_of h < round_of h round)
LooksBack h round Shows (Err (refusals.BelowLookback front)) = (front ≡ front_of h) × (round_of h round + lookback < front_of h)
LooksBack h round Shows (Err refusals.Memory) = ⊥

-- the row under a key after replaying to a round, and the reward level there
pub record ShowsRow (h : Held) (key : Key) (round : ℕ) (a : RowAnswer) : Type 0 where
  pub front : a.front ≡ front_of h
  pub round_is : a.round ≡ round
  pub level : a.level ≡ level_at h.origin h.blocks round
  pub row : option_copied a.row ≡ option_map (λ s. s.row) (row_at h.origin h.blocks round key)

-- the creator of an asset or an application after a round
abbrev pub ShowsCreator : Held → ℕ → ℕ → CreatorAnswer → Type 0
ShowsCreator h id round a = a ≡ record { front = front_of h; round = round; address = creator_after h.origin h.blocks round id }

-- the money of all accounts after a round
pub record ShowsSupply (h : Held) (round : ℕ) (a : SupplyAnswer) : Type 0 where
  pub front : a.front ≡ front_of h
  pub round_is : a.round ≡ round
  pub totals : Some a.totals ≡ totals_after h.origin h.blocks round
  pub sum : sum_of a.totals < 2 ^ 64

-- the stake of an account after a round, none where it was not online
abbrev pub ShowsStake : Held → Address → ℕ → StakeAnswer → Type 0
ShowsStake h who round a = a ≡ record { front = front_of h; round = round; stake = stake_after h.origin h.blocks round who }

-- the stake after a round that may take part in the vote of another
pub record ShowsCirculation (h : Held) (vote : Option ℕ) (round : ℕ) (a : CirculationAnswer) : Type 0 where
  pub front : a.front ≡ front_of h
  pub round_is : a.round ≡ round
  pub vote_is : a.vote ≡ unwrap_or vote (round + lookback)
  pub money : Some a.money ≡ circulation_after h.origin h.blocks round a.vote

-- the front, the first round that is shown, and the hash of the last block's header
pub record ShowsStatus (h : Held) (a : StatusAnswer) : Type 0 where
  pub front : a.front ≡ front_of h
  pub floor : a.floor ≡ 0
  pub hash : Some a.hash ≡ hash_after h.origin h.blocks
