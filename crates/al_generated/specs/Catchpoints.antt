-- The catchpoints of a generated chain.
use Rattle.std.specs.Prelude.{◌≡◌, ◌≤◌, ◌<◌, ◌⊎◌, ◌*◌, ◌/◌, ◌%◌, ◌++◌, ℕ, zero, suc, List, [], ◌∷◌, map, length, codes, All, Option, Result, Ok, Err, ⊤}
use Rattle.al_base.specs.Causes.{Rose}
use Rattle.al_base.specs.Folders.{FileMap}
use Rattle.al_block.specs.Block.{most_bytes}
use Rattle.al_catch.specs.Catching.{IsCatchName, Leaves}
use Rattle.al_catch.specs.Labels.{label_text_of}
use Rattle.al_catch.specs.declared.label.Label.{Label}
use Rattle.al_catchpoint.specs.Chains.{HoldsCatchpoint, IsLabelOf}
use Rattle.al_eval.specs.State.{State, replay, step}
use Rattle.al_eval.specs.Steps.{Refusal}
use Rattle.al_states.specs.Due.{due_block}
use Rattle.al_states.specs.Held.{Held}
use Rattle.al_states.specs.Spellings.{block_string}
use Rattle.al_generated.specs.Chain.{generated_blocks, items_behind, origin}
use Rattle.al_generated.specs.Summary.{line, summary}
use Rattle.al_generated.specs.declared.chain.GenerateRefusal.{GenerateRefusal}
use Rattle.al_generated.specs.declared.chain.GenerateRefusal.TheVariants as refusals

-- the rounds from one catchpoint of the chain to the next
abbrev pub catch_interval : ℕ
catch_interval = 800

-- the chain of a number after its first n blocks
abbrev pub chain_of : ℕ → ℕ → Held
chain_of number n = record { origin = origin; blocks = generated_blocks number n }

-- the rounds of the first n catchpoints
abbrev pub catch_rounds : ℕ → List ℕ
catch_rounds zero = []
catch_rounds (suc n) = catch_rounds n ++ (catch_interval * suc n) ∷ []

-- the labels of the catchpoints up to the last block, in order, whose files stand in the folder now
pub record HasCatchpoints (number blocks : ℕ) (ls : List Label) (before now : Option FileMap) : Type 0 where
  pub rounds : map (λ l. l.round) ls ≡ catch_rounds (blocks / catch_interval)
  pub labels : All (IsLabelOf (chain_of number blocks)) ls
  pub files : Leaves before now (λ files. All (λ l. HoldsCatchpoint (chain_of number blocks) l files) ls)

-- the name of a file of a catchpoint up to the last block
abbrev pub IsOwnName : ℕ → List ℕ → Type 0
IsOwnName blocks name = (round : ℕ) × (round ≤ blocks) × (round % catch_interval ≡ 0) × IsCatchName round name

-- a line for each label
abbrev pub label_lines : List Label → List ℕ
label_lines [] = []
label_lines (l ∷ ls) = line (codes "catchpoint") (label_text_of l) ++ label_lines ls

-- what is said of the chain
abbrev pub whole_summary : ℕ → State → List Label → List ℕ
whole_summary blocks s labels = summary blocks s ++ label_lines labels

-- the next block over a state of the chain is refused by the step, or has too many bytes
pub record StopsAt (number n : ℕ) : Type 0 where
  pub before : State
  pub replayed : replay origin (generated_blocks number n) ≡ Ok before
  pub stops : ((r : Refusal) × (step before (due_block before 0 (items_behind number n)) ≡ Err r)) ⊎ (most_bytes < length (block_string (due_block before 0 (items_behind number n))))

-- why no summary is given: a block of the chain is not taken, the folder failed, or memory is short
abbrev pub GenerateCause : {A : Type 0} → (number blocks before now : ℕ) → Result A GenerateRefusal → Type 0
GenerateCause number blocks before now (Ok a) = ⊤
GenerateCause number blocks before now (Err refusals.Refused) = (n : ℕ) × (n < blocks) × StopsAt number n
GenerateCause number blocks before now (Err (refusals.Folder round file)) = Rose before now
GenerateCause number blocks before now (Err refusals.Memory) = ⊤
