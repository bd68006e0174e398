-- What the process does with its arguments.
use Rattle.std.specs.Prelude.{◌⊎◌, ℕ, List, [], map, drop, string_bytes, Result, Ok, Err}
use Rattle.std.specs.Vec.Iter.{into_iter_items}
use Rattle.std.specs.declared.string.String.{String}
use Rattle.std.specs.declared.vec.IntoIter.{IntoIter}
use Rattle.al_session.specs.Outside.{IsShort, Outside, Unchanged}
use Rattle.al_session.specs.Sessions.{Runs}

-- the arguments behind the first, which is the program's name
abbrev pub words_behind : {A B : Type 0} → IntoIter (String A) B → List (List ℕ)
words_behind args = map string_bytes (drop 1 (into_iter_items args))

-- the words of a command, none where an argument is no text
abbrev pub words_of : {A B E : Type 0} → Result (IntoIter (String A) B) E → List (List ℕ)
words_of (Ok args) = words_behind args
words_of (Err e) = []

-- a run of these words, or there was no memory for them
abbrev pub Enters : List (List ℕ) → Outside → Outside → ℕ → Type 0
Enters words before after status = Unchanged IsShort before after status ⊎ Runs words before after status
