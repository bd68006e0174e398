-- What a look-up gives, over a window.
use Rattle.std.specs.Prelude.{◌≡◌, ◌≤◌, ◌<◌, ◌+◌, ◌^◌, ℕ, option_map, unwrap_or, ⊤}
use Rattle.std.specs.declared.option.Option.{Option}
use Rattle.std.specs.declared.option.Option.TheVariants.{Some}
use Rattle.std.specs.declared.result.Result.{Result}
use Rattle.std.specs.declared.result.Result.TheVariants.{Ok, Err}
use Rattle.al_answers.specs.Answers.{sum_of}
use Rattle.al_base.specs.Causes.{Rose}
use Rattle.al_base.specs.declared.address.Address.{Address}
use Rattle.al_base.specs.declared.key.Key.{Key}
use Rattle.al_eval.specs.State.{row_at, level_at}
use Rattle.al_ledger.specs.declared.looking.CirculationAnswer.{CirculationAnswer}
use Rattle.al_ledger.specs.declared.looking.CreatorAnswer.{CreatorAnswer}
use Rattle.al_ledger.specs.declared.looking.LookRefusal.{LookRefusal}
use Rattle.al_ledger.specs.declared.looking.LookRefusal.TheVariants as refusals
use Rattle.al_ledger.specs.declared.looking.RowAnswer.{RowAnswer}
use Rattle.al_ledger.specs.declared.looking.StakeAnswer.{StakeAnswer}
use Rattle.al_ledger.specs.declared.looking.StatusAnswer.{StatusAnswer}
use Rattle.al_ledger.specs.declared.looking.SupplyAnswer.{SupplyAnswer}
use Rattle.al_ledger.specs.Window.{Window, front_of}
use Rattle.al_states.specs.Rounds.{circulation_after, creator_after, hash_after, lookback, stake_after, totals_after}

-- no round means the front
abbrev pub round_of : ℕ → Option ℕ → ℕ
round_of front round = unwrap_or round front

-- the round that is meant, which is from the floor to the front
abbrev pub IsRound : {F : Type 0} → ℕ → ℕ → Option ℕ → Result ℕ (LookRefusal F) → Type 0
IsRound floor front round (Ok r) = (r ≡ round_of front round) × (floor ≤ r) × (r ≤ front)
IsRound floor front round (Err (refusals.TooNew n)) = (n ≡ front) × (front < round_of front round)
IsRound floor front round (Err (refusals.BelowFloor f n)) = (f ≡ floor) × (n ≡ front) × (round_of front round < floor)
IsRound floor front round (Err (refusals.BelowLookback n)) = ⊥
IsRound floor front round (Err (refusals.Keeper fault n)) = ⊥
IsRound floor front round (Err refusals.Memory) = ⊥

-- the same of what consensus asks, which goes back no more than the look-back
abbrev pub IsRoundBack : {F : Type 0} → ℕ → Option ℕ → Result ℕ (LookRefusal F) → Type 0
IsRoundBack front round (Ok r) = (r ≡ round_of front round) × (r ≤ front) × (front ≤ r + lookback)
IsRoundBack front round (Err (refusals.TooNew n)) = (n ≡ front) × (front < round_of front round)
IsRoundBack front round (Err (refusals.BelowFloor f n)) = ⊥
IsRoundBack front round (Err (refusals.BelowLookback n)) = (n ≡ front) × (round_of front round + lookback < front)
IsRoundBack front round (Err (refusals.Keeper fault n)) = ⊥
IsRoundBack front round (Err refusals.Memory) = ⊥

-- a look-up after a round: a round above the front is too new, one below the floor is not shown any more; a fault of the keeper and want of memory are free here
abbrev pub LooksAt : {A F : Type 0} → Window → Option ℕ → (ℕ → A → Type 0) → Result A (LookRefusal F) → Type 0
LooksAt w round Shows (Ok a) = (w.floor ≤ round_of (front_of w) round) × (round_of (front_of w) round ≤ front_of w) × Shows (round_of (front_of w) round) a
LooksAt w round Shows (Err (refusals.TooNew n)) = (n ≡ front_of w) × (front_of w < round_of (front_of w) round)
LooksAt w round Shows (Err (refusals.BelowFloor f n)) = (f ≡ w.floor) × (n ≡ front_of w) × (round_of (front_of w) round < w.floor)
LooksAt w round Shows (Err (refusals.BelowLookback n)) = ⊥
LooksAt w round Shows (Err (refusals.Keeper fault n)) = (n ≡ front_of w) × (w.floor ≤ round_of (front_of w) round) × (round_of (front_of w) round ≤ front_of w)
LooksAt w round Shows (Err refusals.Memory) = ⊤

-- the same of what consensus asks: a round that lies farther back than the look-back is not shown; no keeper is asked
abbrev pub LooksBack : {A F : Type 0} → Window → Option ℕ → (ℕ → A → Type 0) → Result A (LookRefusal F) → Type 0
LooksBack w round Shows (Ok a) = (round_of (front_of w) round ≤ front_of w) × (front_of w ≤ round_of (front_of w) round + lookback) × Shows (round_of (front_of w) round) a
LooksBack w round Shows (Err (refusals.TooNew n)) = (n ≡ front_of w) × (front_of w < round_of (front_of w) round)
LooksBack w round Shows (Err (refusals.BelowFloor f n)) = ⊥
LooksBack w round Shows (Err (refusals.BelowLookback n)) = (n ≡ front_of w) × (round_of (front_of w) round + lookback < front_of w)
LooksBack w round Shows (Err (refusals.Keeper fault n)) = ⊥
LooksBack w round Shows (Err refusals.Memory) = ⊤

-- the row under a key after replaying to a round, and the reward level there
pub record ShowsRow (w : Window) (key : Key) (round : ℕ) (a : RowAnswer) : Type 0 where
  pub front : a.front ≡ front_of w
  pub round_is : a.round ≡ round
  pub level : a.level ≡ level_at w.origin w.blocks round
  pub row : a.row ≡ option_map (λ s. s.row) (row_at w.origin w.blocks round key)

-- the creator of an asset or an application after a round
abbrev pub ShowsCreator : Window → ℕ → ℕ → CreatorAnswer → Type 0
ShowsCreator w id round a = a ≡ record { front = front_of w; round = round; address = creator_after w.origin w.blocks round id }

-- the money of all accounts after a round
pub record ShowsSupply (w : Window) (round : ℕ) (a : SupplyAnswer) : Type 0 where
  pub front : a.front ≡ front_of w
  pub round_is : a.round ≡ round
  pub totals : Some a.totals ≡ totals_after w.origin w.blocks round
  pub sum : sum_of a.totals < 2 ^ 64

-- the stake of an account after a round, none where it was not online
abbrev pub ShowsStake : Window → Address → ℕ → StakeAnswer → Type 0
ShowsStake w who round a = a ≡ record { front = front_of w; round = round; stake = stake_after w.origin w.blocks round who }

-- the stake after a round that may take part in the vote of another
pub record ShowsCirculation (w : Window) (vote : Option ℕ) (round : ℕ) (a : CirculationAnswer) : Type 0 where
  pub front : a.front ≡ front_of w
  pub round_is : a.round ≡ round
  pub vote_is : a.vote ≡ unwrap_or vote (round + lookback)
  pub money : Some a.money ≡ circulation_after w.origin w.blocks round a.vote

-- the front, the first round whose rows are shown, and the hash of the last block's header
pub record ShowsStatus (w : Window) (a : StatusAnswer) : Type 0 where
  pub front : a.front ≡ front_of w
  pub floor : a.floor ≡ w.floor
  pub hash : Some a.hash ≡ hash_after w.origin w.blocks

-- the keeper's count rose where a look-up was refused because the keeper failed
abbrev pub LookCause : {A F : Type 0} → ℕ → ℕ → Result A (LookRefusal F) → Type 0
LookCause before now (Err (refusals.Keeper fault n)) = Rose before now
LookCause before now r = ⊤

-- its count never falls, and rose where it failed
pub record HasLookCause {A F : Type 0} (before now : ℕ) (result : Result A (LookRefusal F)) : Type 0 where
  pub later : before ≤ now
  pub failed : LookCause before now result
