-- What comes of posted bytes: by which keeper's fault, and where memory is short.
use Rattle.std.specs.Prelude.{ℕ, ◌≤◌, ⊤}
use Rattle.std.specs.declared.result.Result.{Result}
use Rattle.std.specs.declared.result.Result.TheVariants.{Err}
use Rattle.al_base.specs.Causes.{Rose}
use Rattle.al_block.specs.declared.decoding.BlockFault.{BlockFault}
use Rattle.al_block.specs.declared.decoding.BlockFault.TheVariants as faults
use Rattle.al_msgpack.specs.declared.fault.DecodeFault.TheVariants as places
use Rattle.al_eval.specs.declared.before.EvalRefusal.{EvalRefusal}
use Rattle.al_eval.specs.declared.before.EvalRefusal.TheVariants as evals
use Rattle.al_ledger.specs.declared.accepting.AcceptRefusal.{AcceptRefusal}
use Rattle.al_ledger.specs.declared.accepting.AcceptRefusal.TheVariants as refusals

-- the count of the tables' keeper rose where that keeper failed
abbrev pub TablesCause : {A F G : Type 0} → ℕ → ℕ → Result A (AcceptRefusal F G) → Type 0
TablesCause before now (Err (refusals.Keeper fault front)) = Rose before now
TablesCause before now r = ⊤

-- the count of the blocks' keeper rose where that keeper failed
abbrev pub BlocksCause : {A F G : Type 0} → ℕ → ℕ → Result A (AcceptRefusal F G) → Type 0
BlocksCause before now (Err (refusals.Blocks fault front)) = Rose before now
BlocksCause before now r = ⊤

pub record HasTablesCause {A F G : Type 0} (before now : ℕ) (result : Result A (AcceptRefusal F G)) : Type 0 where
  pub later : before ≤ now
  pub failed : TablesCause before now result

pub record HasBlocksCause {A F G : Type 0} (before now : ℕ) (result : Result A (AcceptRefusal F G)) : Type 0 where
  pub later : before ≤ now
  pub failed : BlocksCause before now result

-- ---- want of memory

-- want of memory inside a fault is that of the call
abbrev pub outer_fault : {F G : Type 0} → BlockFault → AcceptRefusal F G
outer_fault faults.Memory = refusals.Memory
outer_fault (faults.Decode places.Memory) = refusals.Memory
outer_fault f = refusals.Undecodable f

abbrev pub outer_refusal : {F G : Type 0} → ℕ → EvalRefusal F → AcceptRefusal F G
outer_refusal front (evals.Broken place rule) = refusals.Eval (evals.Broken place rule) front
outer_refusal front (evals.Header field) = refusals.Eval (evals.Header field) front
outer_refusal front (evals.PoolShort pool owed) = refusals.Eval (evals.PoolShort pool owed) front
outer_refusal front (evals.Expired place) = refusals.Eval (evals.Expired place) front
outer_refusal front (evals.View fault) = refusals.Keeper fault front
outer_refusal front evals.Memory = refusals.Memory
