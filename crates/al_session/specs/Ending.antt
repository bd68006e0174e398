-- How a run ends that has its two files and a round that has a catchpoint.
use Rattle.std.specs.Prelude.{◌⊎◌, ℕ, List}
use Rattle.al_catch.specs.Catching.{IsCatchName, KeepsBut}
use Rattle.al_genesis.specs.declared.genesis.Genesis.{Genesis}
use Rattle.al_session.specs.Catching.{IsBehind, IsCatchpoint, IsRefusedAt, IsUnsaved}
use Rattle.al_session.specs.Outside.{IsShort, Outside}

-- no file but those of the catchpoint is changed
abbrev pub IsEnded : ℕ → Genesis → List ℕ → Outside → Outside → ℕ → Type 0
IsEnded round genesis bytes before after status =
    (IsBehind round genesis bytes before after status ⊎ IsRefusedAt genesis bytes before after status ⊎ IsUnsaved round before after status ⊎ IsShort before after status ⊎ IsCatchpoint round genesis bytes before after status)
    × KeepsBut (IsCatchName round) before.files after.files
