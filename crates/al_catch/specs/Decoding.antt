-- What an input is that should be the record of a file, by the record's format.
use Rattle.std.specs.Prelude.{◌≡◌, ℕ, List, Option, Some, None, Result, Ok, Err}
use Rattle.al_msgpack.specs.declared.val.Val.{Val, out-Val}
use Rattle.al_msgpack.specs.declared.val.Val.TheVariants as values
use Rattle.al_msgpack.specs.Places.{IsSpelling, Means}
use Rattle.al_record.specs.declared.fault.Fault.{Fault}
use Rattle.al_record.specs.declared.fault.Fault.TheVariants.{Field, Range}
use Rattle.al_record.specs.Columns.{Format, member_open}
use Rattle.al_catch.specs.declared.decoding.FileFault.{FileFault}
use Rattle.al_catch.specs.declared.decoding.FileFault.TheVariants as faults

-- the first fault of a value; one that is no map is a Field fault of the empty name
abbrev pub value_fault : {X : Type 0} → Format X → Val → Option Fault
value_fault format v = member_open format.fault (out-Val v)

-- the input spells the record of the value
pub record Holds {X : Type 0} (format : Format X) (input : List ℕ) (x : X) : Type 0 where
  pub spells : IsSpelling (values.Map (format.write x)) input
  pub sound : value_fault format (values.Map (format.write x)) ≡ None

-- the input spells a value whose first fault this is
pub record IsFaulty {X : Type 0} (format : Format X) (input : List ℕ) (f : Fault) : Type 0 where
  pub value : Val
  pub spells : IsSpelling value input
  pub fault : value_fault format value ≡ Some f

-- What each answer means. Want of memory means nothing.
abbrev pub FileMeans : {X : Type 0} → Format X → List ℕ → Result X FileFault → Type 0
FileMeans format input (Ok x) = Holds format input x
FileMeans format input (Err (faults.Decode f)) = Means input (Err f)
FileMeans format input (Err (faults.Field name)) = IsFaulty format input (Field name)
FileMeans format input (Err (faults.Range name)) = IsFaulty format input (Range name)
FileMeans format input (Err faults.Memory) = ⊥

-- the answer is right, unless memory ran out
abbrev pub FileMeansUnless : {X : Type 0} → Format X → List ℕ → Result X FileFault → Type 0
FileMeansUnless format input (Ok x) = Holds format input x
FileMeansUnless format input (Err (faults.Decode f)) = Means input (Err f)
FileMeansUnless format input (Err (faults.Field name)) = IsFaulty format input (Field name)
FileMeansUnless format input (Err (faults.Range name)) = IsFaulty format input (Range name)
FileMeansUnless format input (Err faults.Memory) = Unit {0}

-- what is right is answered, unless memory ran out
abbrev pub FileAnswers : {X : Type 0} → Result X FileFault → Result X FileFault → Type 0
FileAnswers (Err faults.Memory) r = Unit {0}
FileAnswers (Ok x) r = r ≡ Ok x
FileAnswers (Err (faults.Decode f)) r = r ≡ Err (faults.Decode f)
FileAnswers (Err (faults.Field name)) r = r ≡ Err (faults.Field name)
FileAnswers (Err (faults.Range name)) r = r ≡ Err (faults.Range name)

-- bytes spell the record of at most one value
abbrev pub SpellsOne : {X : Type 0} → Format X → Type 0
SpellsOne {X} format = (input : List ℕ) (x y : X) → Holds format input x → Holds format input y → x ≡ y
