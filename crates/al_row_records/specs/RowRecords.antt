-- Rows under their keys, and what an input is that should spell one.
use Rattle.std.specs.Prelude.{◌≡◌, ◌<◌, ◌^◌, ℕ, Bool, true, false, List, Option, Some, None, Result, Ok, Err}
use Rattle.al_base.specs.declared.key.Key.{Key}
use Rattle.al_base.specs.declared.key.Key.TheVariants as key
use Rattle.al_msgpack.specs.declared.val.Val.{Val, out-Val}
use Rattle.al_msgpack.specs.declared.val.Val.TheVariants as values
use Rattle.al_msgpack.specs.declared.val.Entry.{Entry}
use Rattle.al_msgpack.specs.Places.{IsSpelling, Means}
use Rattle.al_record.specs.declared.fault.Fault.{Fault}
use Rattle.al_record.specs.declared.fault.Fault.TheVariants.{Field, Range}
use Rattle.al_record.specs.declared.fault.ReadError.{ReadError}
use Rattle.al_record.specs.Columns.{Fails, member_open}
use Rattle.al_rows.specs.declared.row.Row.{Row}
use Rattle.al_rows.specs.declared.row.Row.TheVariants as row
use Rattle.al_rows.specs.Rows.{AssetParamsInRange, HoldingInRange, is_zero}
use Rattle.al_row_records.specs.declared.decoding.RowFault.{RowFault}
use Rattle.al_row_records.specs.declared.decoding.RowFault.TheVariants as faults
use Rattle.al_row_records.specs.Tables.{account, asset, app, box, resource_fault}

-- the fields of a row that are not zero
abbrev pub row_written : Row → List Entry
row_written (row.Account r) = account.write r
row_written (row.Asset a) = asset.write a
row_written (row.App a) = app.write a
row_written (row.Box b) = box.write b

-- a row of the kind that stands under this key
abbrev pub is_of : Key → Row → Bool
is_of (key.Account who) (row.Account r) = true
is_of (key.Resource who id) (row.Asset a) = true
is_of (key.Resource who id) (row.App a) = true
is_of (key.Box number name) (row.Box b) = true
is_of k r = false

-- the first fault of what should be the record of a row under this key
abbrev pub row_fault : Key → List Entry → Option Fault
row_fault (key.Account who) es = account.fault es
row_fault (key.Resource who id) es = resource_fault es
row_fault (key.Box number name) es = box.fault es

-- The same of any value: one that is no map is a Field fault of the empty name.
abbrev pub value_fault : Key → Val → Option Fault
value_fault k v = member_open (row_fault k) (out-Val v)

-- the answer for entries, unless memory ran out
abbrev pub ReadsEntries : Key → List Entry → Result Row ReadError → Type 0
ReadsEntries k es (Ok r) = (is_of k r ≡ true) × (es ≡ row_written r) × (row_fault k es ≡ None)
ReadsEntries k es (Err e) = Fails e (row_fault k es)

-- the same where the key is a resource's
abbrev pub ReadsResource : List Entry → Result Row ReadError → Type 0
ReadsResource es (Ok (row.Asset a)) = (es ≡ asset.write a) × (resource_fault es ≡ None)
ReadsResource es (Ok (row.App a)) = (es ≡ app.write a) × (resource_fault es ≡ None)
ReadsResource es (Ok r) = ⊥
ReadsResource es (Err e) = Fails e (resource_fault es)

-- the answer for a value, unless memory ran out
abbrev pub ReadsRow : Key → Val → Result Row ReadError → Type 0
ReadsRow k v (Ok r) = (is_of k r ≡ true) × (values.Map (row_written r) ≡ v) × (value_fault k v ≡ None)
ReadsRow k v (Err e) = Fails e (value_fault k v)

-- the input spells the record of a row of the key's kind, zero or not
pub record IsRecordUnder (k : Key) (input : List ℕ) (r : Row) : Type 0 where
  pub kind : is_of k r ≡ true
  pub spells : IsSpelling (values.Map (row_written r)) input
  pub sound : value_fault k (values.Map (row_written r)) ≡ None

-- the input spells the record of a row that may stand under the key
abbrev pub IsRow : Key → List ℕ → Row → Type 0
IsRow k input r = IsRecordUnder k input r × (is_zero r ≡ false)

-- the input spells the record of a zero row
pub record IsZeroRow (k : Key) (input : List ℕ) : Type 0 where
  pub row : Row
  pub is : IsRecordUnder k input row
  pub zero : is_zero row ≡ true

-- the input spells a value whose first fault this is
pub record IsFaulty (k : Key) (input : List ℕ) (f : Fault) : Type 0 where
  pub value : Val
  pub spells : IsSpelling value input
  pub fault : value_fault k value ≡ Some f

-- What each answer means. Want of memory means nothing.
abbrev pub RowMeans : Key → List ℕ → Result Row RowFault → Type 0
RowMeans k input (Ok r) = IsRow k input r
RowMeans k input (Err (faults.Decode f)) = Means input (Err f)
RowMeans k input (Err (faults.Field name)) = IsFaulty k input (Field name)
RowMeans k input (Err (faults.Range name)) = IsFaulty k input (Range name)
RowMeans k input (Err faults.ZeroRow) = IsZeroRow k input
RowMeans k input (Err faults.Memory) = ⊥

-- the answer is right, unless memory ran out
abbrev pub RowMeansUnless : Key → List ℕ → Result Row RowFault → Type 0
RowMeansUnless k input (Ok r) = IsRow k input r
RowMeansUnless k input (Err (faults.Decode f)) = Means input (Err f)
RowMeansUnless k input (Err (faults.Field name)) = IsFaulty k input (Field name)
RowMeansUnless k input (Err (faults.Range name)) = IsFaulty k input (Range name)
RowMeansUnless k input (Err faults.ZeroRow) = IsZeroRow k input
RowMeansUnless k input (Err faults.Memory) = Unit {0}

-- what is right is answered, unless memory ran out
abbrev pub RowAnswers : Result Row RowFault → Result Row RowFault → Type 0
RowAnswers (Err faults.Memory) answer = Unit {0}
RowAnswers (Ok r) answer = answer ≡ Ok r
RowAnswers (Err (faults.Decode f)) answer = answer ≡ Err (faults.Decode f)
RowAnswers (Err (faults.Field name)) answer = answer ≡ Err (faults.Field name)
RowAnswers (Err (faults.Range name)) answer = answer ≡ Err (faults.Range name)
RowAnswers (Err faults.ZeroRow) answer = answer ≡ Err faults.ZeroRow

-- the numbers of a key and of an asset row have 64 bits
abbrev pub FitsKey : Key → Type 0
FitsKey (key.Account who) = Unit {0}
FitsKey (key.Resource who id) = id < 2 ^ 64
FitsKey (key.Box number name) = number < 2 ^ 64

abbrev pub FitsRow : Row → Type 0
FitsRow (row.Asset a) = AssetParamsInRange a.params × HoldingInRange a.holding
FitsRow r = Unit {0}
