-- What makes a state consistent: its counts are those of its rows, and all its money is at most what one balance may be. And what makes it sound: sink and pool do not participate, and the pool can pay what is due until the rate is computed anew.
use Rattle.std.specs.declared.option.Option.TheVariants.{None, Some}
use Rattle.std.specs.Prelude.{All, List, map, ⊤, ◌≡◌, ◌≢◌, ℕ, ◌+◌, ◌-◌, ◌*◌, ◌≤◌, ◌<◌, false}
use Rattle.std.specs.declared.result.Result.{Result}
use Rattle.std.specs.declared.result.Result.TheVariants.{Ok, Err}
use Rattle.al_block.specs.declared.block.Block.{Block}
use Rattle.al_rewards.specs.Next.{least_pool}
use Rattle.al_rewards.specs.Totals.{AreTotals}
use Rattle.al_rows.specs.Rows.{bare, account}
use Rattle.al_overlay.specs.declared.rule.Rule.{Rule}
use Rattle.al_overlay.specs.Accounts.{same_address}
use Rattle.al_moves.specs.Changes.{AreChanges, change_of}
use Rattle.al_moves.specs.Created.{AreCreatorChanges, creator_change_of}
use Rattle.al_moves.specs.Money.{money}
use Rattle.al_moves.specs.Resources.{app_account}
use Rattle.al_resources.specs.Sound.{IsOtherRule, SoundRows}
use Rattle.al_genesis.specs.declared.genesis.Genesis.{Genesis}
use Rattle.al_genesis.specs.Genesis.{IsGenesis}
use Rattle.al_eval.specs.Body.{IsItemInRange}
use Rattle.al_eval.specs.Start.{start, start_totals}
use Rattle.al_online.specs.Stakes.{next_snap}
use Rattle.al_eval.specs.State.{KeepsLast, State, step, counts_in, last_snap}
use Rattle.al_deltas.specs.declared.delta.RoundDelta.{RoundDelta}
use Rattle.al_deltas.specs.Queue.{after_delta}
use Rattle.al_eval.specs.declared.before.EvalRefusal.{EvalRefusal}
use Rattle.al_eval.specs.Answers.{IsDeltaOf}
use Rattle.al_eval.specs.Refusals.{Refusal, broken, header, pool_short, expired, Verdict, refused, failed, no_memory, refusal_of}

-- ---- sound states

-- rows that agree with one another, at the header's level and count
abbrev pub Consistent : State → Type 0
Consistent s = SoundRows s.header.level s.header.counter None (bare s.rows)

pub record Sound (s : State) : Type 0 where
  pub rows : SoundRows s.header.level s.header.counter (Some s.chain.special) (bare s.rows)
  pub interval : 1 ≤ s.chain.interval
  pub recalc : s.header.round < s.header.recalc
  pub fund : least_pool + s.header.residue + s.header.rate * (s.header.recalc - s.header.round - 1) ≤ (account (bare s.rows) s.chain.special.pool).balance

-- no application that there is, or that comes next, has the sink or the pool as its account
abbrev pub Apart : State → Type 0
Apart s = (app : ℕ) → app ≤ s.header.counter + 1 → (same_address (app_account app) s.chain.special.sink ≡ false) × (same_address (app_account app) s.chain.special.pool ≡ false)

-- ---- what a step over a consistent state answers

-- what a delta leads to: the state that is due, which is consistent, with its rows, its creators, its totals and what consensus may ask of its round; from a sound state with the same money, and to a sound one where it is apart
pub record LeadsTo (s : State) (b : Block) (d : RoundDelta) (t : State) : Type 0 where
  pub stepped : step s b ≡ Ok t
  pub rows : AreChanges (bare s.rows) (bare t.rows) (map change_of d.changes)
  pub creators : AreCreatorChanges (bare s.rows) (bare t.rows) (map creator_change_of d.creators)
  pub totals : d.totals ≡ counts_in t
  pub online : last_snap t ≡ next_snap t.header.level d.online (last_snap s)
  pub consistent : Consistent t
  pub sound : Sound s → Apart t → Sound t
  pub money : Sound s → money t.header.level (bare t.rows) ≡ money s.header.level (bare s.rows)

-- a refusal that a consistent state can come to: no balance and no holding passes the most; and a sound one, whose pool can pay
abbrev pub MayCome : State → Refusal → Type 0
MayCome s (broken place rule) = IsOtherRule rule
MayCome s (header f) = ⊤
MayCome s (pool_short pool owed) = Sound s → ⊥
MayCome s (expired place) = ⊤

abbrev pub IsStepRefusal : State → Block → Verdict → Type 0
IsStepRefusal s b (refused r) = (step s b ≡ Err r) × MayCome s r
IsStepRefusal s b failed = ⊤
IsStepRefusal s b no_memory = ⊤

-- the delta of the step, or its refusal
abbrev pub IsStep : {F : Type 0} → State → Block → Result RoundDelta (EvalRefusal F) → Type 0
IsStep s b (Ok d) = (t : State) × LeadsTo s b d t
IsStep s b (Err e) = IsStepRefusal s b (refusal_of e)

-- ---- laws

-- a genesis begins a sound state
abbrev pub StartIsSound : Type 0
StartIsSound = (input : List ℕ) (g : Genesis) → IsGenesis input g → Sound (start g)

-- a genesis's totals are those of its rows, and fit into 64 bits
abbrev pub StartIsCounted : Type 0
StartIsCounted = (input : List ℕ) (g : Genesis) → IsGenesis input g → (start_totals g.accounts ≡ counts_in (start g)) × AreTotals (start_totals g.accounts)

-- a genesis's state keeps what consensus may ask of round 0
abbrev pub StartKeepsLast : Type 0
StartKeepsLast = (input : List ℕ) (g : Genesis) → IsGenesis input g → KeepsLast (start g)

-- the numbers of what a block creates have 64 bits, and its effects are in the ranges of their records
abbrev pub AreInRange : Block → Type 0
AreInRange b = All IsItemInRange b.items

-- From a consistent state a block that is taken leads to a consistent state, and none is refused because a balance or a holding would pass the most. From a sound state the money stays, the pool can always pay, and the state after it is sound where it is apart
pub record StepIsSound : Type 0 where
  pub consistent : (s t : State) (b : Block) → AreInRange b → Consistent s → step s b ≡ Ok t → Consistent t
  pub within : (s : State) (b : Block) (place : ℕ) (rule : Rule) → AreInRange b → Consistent s → step s b ≡ Err (broken place rule) → IsOtherRule rule
  pub sound : (s t : State) (b : Block) → AreInRange b → Sound s → Apart t → step s b ≡ Ok t → Sound t
  pub keeps : (s t : State) (b : Block) → AreInRange b → Sound s → step s b ≡ Ok t → money t.header.level (bare t.rows) ≡ money s.header.level (bare s.rows)
  pub pays : (s : State) (b : Block) (pool owed : ℕ) → AreInRange b → Sound s → step s b ≢ Err (pool_short pool owed)

-- over a consistent state the rows after a block are those before with what it changes put over them
abbrev pub RowsFollow : Type 0
RowsFollow = (s t : State) (b : Block) (d : RoundDelta) → IsDeltaOf b.header d → LeadsTo s b d t → t.rows ≡ after_delta d s.rows
