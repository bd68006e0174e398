-- What a genesis file opens.
use Rattle.std.specs.Prelude.{◌≡◌, ℕ, List, [], ⊤, Result, Ok, Err}
use Rattle.al_genesis.specs.declared.genesis.Genesis.{Genesis}
use Rattle.al_genesis.specs.declared.genesis.GenesisFault.{GenesisFault}
use Rattle.al_genesis.specs.declared.genesis.GenesisFault.TheVariants as read
use Rattle.al_genesis.specs.Genesis.{IsGenesis, GenesisMeans, number_of}
use Rattle.al_eval.specs.Start.{start}
use Rattle.al_states.specs.declared.states.States.{States}
use Rattle.al_states.specs.declared.opening.OpenFault.{OpenFault}
use Rattle.al_states.specs.declared.opening.OpenFault.TheVariants as faults
use Rattle.al_states.specs.Keeping.{IsStates, held}

-- the file holds no genesis, and this is the number of its first fault
abbrev pub IsRefusedGenesis : List ℕ → ℕ → Type 0
IsRefusedGenesis file n = (f : GenesisFault) × GenesisMeans file (Err f) × (n ≡ number_of f)

-- what a fault of the reader is shown as
abbrev pub fault_of : GenesisFault → OpenFault
fault_of read.Memory = faults.Memory
fault_of f = faults.Genesis (number_of f)

-- the states of a genesis with no block, or that the file holds none; only want of memory is free
abbrev pub Opens : List ℕ → Result States OpenFault → Type 0
Opens file (Ok s) = IsStates s × ((g : Genesis) × IsGenesis file g × (held s ≡ record { origin = start g; blocks = [] }))
Opens file (Err (faults.Genesis n)) = IsRefusedGenesis file n
Opens file (Err faults.Memory) = ⊤
