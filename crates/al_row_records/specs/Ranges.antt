-- The ranges of rows, and the laws of their records.
use Rattle.std.specs.Prelude.{◌≡◌, ◌<◌, ◌≤◌, ◌^◌, ℕ, true, false, List, IfSome}
use Rattle.al_base.specs.declared.key.Key.{Key}
use Rattle.al_msgpack.specs.declared.val.Val.TheVariants as values
use Rattle.al_msgpack.specs.Spelled.{spelled}
use Rattle.al_bodies.specs.Ranges.{IsArray, IsBetween, ParamsRanges}
use Rattle.al_rows.specs.Limits.{max_balance}
use Rattle.al_rows.specs.Rows.{CountsInRange, is_zero}
use Rattle.al_rows.specs.declared.account.AccountRow.{AccountRow}
use Rattle.al_rows.specs.declared.row.Holding.{Holding}
use Rattle.al_rows.specs.declared.row.AppParams.{AppParams}
use Rattle.al_rows.specs.declared.row.Local.{Local}
use Rattle.al_rows.specs.declared.row.BoxRow.{BoxRow}
use Rattle.al_rows.specs.declared.row.Row.{Row}
use Rattle.al_rows.specs.declared.row.Row.TheVariants as row
use Rattle.al_row_records.specs.RowRecords.{is_of, row_written, IsRow}

pub record AccountRanges (r : AccountRow) : Type 0 where
  pub balance : r.balance ≤ max_balance
  pub base : r.base < 2 ^ 64
  pub auth : IsArray 32 r.auth.0
  pub vote : IsArray 32 r.vote
  pub selection : IsArray 32 r.selection
  pub sprf : IsArray 64 r.sprf
  pub first : r.first < 2 ^ 64
  pub last : r.last < 2 ^ 64
  pub dilution : r.dilution < 2 ^ 64
  pub counts : CountsInRange r

abbrev pub HoldingRanges : Holding → Type 0
HoldingRanges h = h.amount < 2 ^ 64

pub record AppParamsRanges (p : AppParams) : Type 0 where
  pub global_uints : p.global_uints ≤ 64
  pub global_slices : p.global_slices ≤ 64
  pub local_uints : p.local_uints ≤ 64
  pub local_slices : p.local_slices ≤ 64
  pub extra_pages : p.extra_pages ≤ 3
  pub state : IsBetween 0 8192 p.state

pub record LocalRanges (l : Local) : Type 0 where
  pub uints : l.uints ≤ 64
  pub slices : l.slices ≤ 64
  pub state : IsBetween 0 8192 l.state

abbrev pub BoxRanges : BoxRow → Type 0
BoxRanges b = IsBetween 0 32768 b.value

abbrev pub RowRanges : Row → Type 0
RowRanges (row.Account r) = AccountRanges r
RowRanges (row.Asset a) = IfSome a.holding HoldingRanges × IfSome a.params ParamsRanges
RowRanges (row.App a) = IfSome a.local LocalRanges × IfSome a.params AppParamsRanges
RowRanges (row.Box b) = BoxRanges b

-- What is written of a row in its ranges that is no zero row spells it, under each key of its kind.
abbrev pub SpellsRows : Type 0
SpellsRows = (k : Key) (r : Row) → is_of k r ≡ true → RowRanges r → is_zero r ≡ false → IsRow k (spelled (values.Map (row_written r))) r

-- a row has one spelling
abbrev pub HasOneSpelling : Type 0
HasOneSpelling = (k : Key) (r : Row) (input : List ℕ) → IsRow k input r → input ≡ spelled (values.Map (row_written r))

-- bytes spell at most one row under a key
abbrev pub SpellsOneRow : Type 0
SpellsOneRow = (k : Key) (input : List ℕ) (a b : Row) → IsRow k input a → IsRow k input b → a ≡ b
