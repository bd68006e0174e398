-- What the step of a block gives over the rows after the last round.
use Rattle.std.specs.Prelude.{◌≡◌, map}
use Rattle.std.specs.declared.result.Result.{Result}
use Rattle.std.specs.declared.result.Result.TheVariants.{Ok, Err}
use Rattle.al_block.specs.declared.block.Block.{Block}
use Rattle.al_deltas.specs.Queue.{IsKeptDelta, rows_after}
use Rattle.al_eval.specs.Answers.{IsDeltaOf}
use Rattle.al_eval.specs.Refusals.{refusal_of}
use Rattle.al_eval.specs.Sound.{AreInRange, Consistent, IsStepRefusal}
use Rattle.al_eval.specs.State.{State, before_of}
use Rattle.al_eval.specs.declared.before.EvalRefusal.{EvalRefusal}
use Rattle.al_eval.specs.declared.run.Evaluated.{Evaluated}
use Rattle.al_online.specs.Memory.{IsEachOnce}
use Rattle.al_tables.specs.Tables.{StoredMap}
use Rattle.al_tail.specs.Past.{entry_of, live}
use Rattle.al_ledger.specs.declared.recent.Recent.{Recent}
use Rattle.al_ledger.specs.Steps.{StepsTo}

-- what a step gives of a block, whatever the rows are: its header, changes that may be kept, and what is kept of its transactions
pub record IsTakable (b : Block) (e : Evaluated) : Type 0 where
  pub is_of : IsDeltaOf b.header e.delta
  pub kept : IsKeptDelta e.delta
  pub once : IsEachOnce e.delta.online
  pub entries : e.entries.items ≡ map (λ i. entry_of i.txn) b.items

-- the step from a state gives what the block changes
pub record IsEvaluated (s : State) (b : Block) (e : Evaluated) : Type 0 where
  pub next : State
  pub steps : StepsTo s b e.delta next
  pub ranged : AreInRange b

-- what a step over a state gives, or why the block is refused
abbrev pub EvaluatesTo : {F : Type 0} → State → Block → Result Evaluated (EvalRefusal F) → Type 0
EvaluatesTo s b (Ok e) = IsEvaluated s b e
EvaluatesTo s b (Err e) = IsStepRefusal s b (refusal_of e)

-- the step over each consistent state of which this is known: its rows are those of the tables with what blocks changed, and the transactions that may stand no second time are those of its past
abbrev pub Evaluates : {F : Type 0} → Recent → StoredMap → Block → Result Evaluated (EvalRefusal F) → Type 0
Evaluates r rows b result = (s : State) → r.before ≡ before_of s → live b.header.round r.tail ≡ live b.header.round (map entry_of s.past) → rows_after r.deltas.deltas rows ≡ s.rows → Consistent s → EvaluatesTo s b result
