-- How far a generated chain is made, and what stops it.
use Rattle.std.specs.Prelude.{◌≡◌, ◌⊎◌, ◌<◌, ◌^◌, ℕ, List, [], length, Option, Result, Ok, Err, ⊤}
use Rattle.al_base.specs.Folders.{FileMap}
use Rattle.al_block.specs.Block.{most_bytes}
use Rattle.al_block.specs.declared.block.Block.{Block}
use Rattle.al_catch.specs.Catching.{Leaves}
use Rattle.al_catch.specs.declared.label.Label.{Label}
use Rattle.al_catchpoint.specs.Applying.{IsJudgement}
use Rattle.al_catchpoint.specs.Chains.{HoldsCatchpoint, IsLabelOf}
use Rattle.al_catchpoint.specs.declared.writing.WriteFault.{WriteFault}
use Rattle.al_catchpoint.specs.declared.writing.WriteFault.TheVariants as faults
use Rattle.al_eval.specs.State.{State, step}
use Rattle.al_eval.specs.Steps.{Refusal}
use Rattle.al_generator.specs.Genesis.{generated_genesis}
use Rattle.al_generator.specs.declared.progress.Progress.{Progress}
use Rattle.al_generated.specs.Catchpoints.{StopsAt, chain_of}
use Rattle.al_generated.specs.Chain.{generated_blocks, origin, progress_after}
use Rattle.al_generated.specs.declared.chain.GenerateRefusal.{GenerateRefusal}
use Rattle.al_generated.specs.declared.chain.GenerateRefusal.TheVariants as refusals
use Rattle.al_states.specs.Keeping.{IsStates, held}
use Rattle.al_states.specs.Spellings.{block_string}
use Rattle.al_states.specs.declared.accepting.AcceptRefusal.{AcceptRefusal}
use Rattle.al_states.specs.declared.states.States.{States}

-- the states are those of the first n blocks, and the generator stands behind them
pub record IsMade (number n : ℕ) (s : States) (g : Progress) : Type 0 where
  pub states : IsStates s
  pub held_is : held s ≡ record { origin = origin; blocks = generated_blocks number n }
  pub progress : g ≡ progress_after number n

-- they are those of some first blocks, of which there are not too many
abbrev pub IsMaking : States → Progress → Type 0
IsMaking s g = (number : ℕ) × (n : ℕ) × IsMade number n s g × (n < 2 ^ 50)

-- these are the states before the first block, and the hash of their genesis
abbrev pub IsBegun : States → List ℕ → Type 0
IsBegun s genesis = IsStates s × (held s ≡ record { origin = origin; blocks = [] }) × (genesis ≡ generated_genesis.chain.hash)

-- ---- what stops it

-- want of memory stops it, and so does a refusal
abbrev pub IsRefusedBy : AcceptRefusal → GenerateRefusal → Type 0
IsRefusedBy r refusals.Refused = IsJudgement r
IsRefusedBy r (refusals.Folder round file) = ⊥
IsRefusedBy r refusals.Memory = ⊤

-- why a block is not taken: the step refuses it, it has too many bytes, or memory is short
abbrev pub IsStopped : {A : Type 0} → State → Block → Result A GenerateRefusal → Type 0
IsStopped s b (Ok a) = ⊤
IsStopped s b (Err refusals.Refused) = ((r : Refusal) × (step s b ≡ Err r)) ⊎ (most_bytes < length (block_string b))
IsStopped s b (Err (refusals.Folder round file)) = ⊥
IsStopped s b (Err refusals.Memory) = ⊤

-- why so many blocks are not made: one of them is not taken, or memory is short
abbrev pub MakingCause : {A : Type 0} → (number blocks : ℕ) → Result A GenerateRefusal → Type 0
MakingCause number blocks (Ok a) = ⊤
MakingCause number blocks (Err refusals.Refused) = (n : ℕ) × (n < blocks) × StopsAt number n
MakingCause number blocks (Err (refusals.Folder round file)) = ⊥
MakingCause number blocks (Err refusals.Memory) = ⊤

-- ---- a catchpoint

-- the label of a round of the chain, whose catchpoint stands in the folder now
pub record HasPoint (number round : ℕ) (l : Label) (before now : Option FileMap) : Type 0 where
  pub round_is : l.round ≡ round
  pub label : IsLabelOf (chain_of number round) l
  pub files : Leaves before now (HoldsCatchpoint (chain_of number round) l)

-- why no summary is given where a catchpoint of a round is not written
abbrev pub refusal_at : ℕ → WriteFault → GenerateRefusal
refusal_at round (faults.Folder file) = refusals.Folder round file
refusal_at round faults.Memory = refusals.Memory
