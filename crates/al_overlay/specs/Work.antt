-- What a call of a work does: the rows before the block, before the transaction and now.
use Rattle.std.specs.Prelude.{◌≡◌, ℕ, Bool, true, ◌≤◌, ⊤}
use Rattle.std.specs.declared.option.Option.{Option}
use Rattle.std.specs.declared.option.Option.TheVariants.{None, Some}
use Rattle.std.specs.declared.result.Result.{Result}
use Rattle.std.specs.declared.result.Result.TheVariants.{Ok, Err}
use Rattle.std.specs.FinMap.{get}
use Rattle.al_base.specs.declared.account.Special.{Special}
use Rattle.al_base.specs.declared.address.Address.{Address}
use Rattle.al_base.specs.declared.key.Key.TheVariants as key
use Rattle.al_rows.specs.declared.row.Row.{Row}
use Rattle.al_rows.specs.Rows.{RowMap, has_params, unless_zero}
use Rattle.al_overlay.specs.declared.rule.Rule.{Rule}
use Rattle.al_base.specs.Causes.{Rose}
use Rattle.al_overlay.specs.declared.rule.Stop.{Stop}
use Rattle.al_overlay.specs.declared.rule.Stop.TheVariants as stop

-- the rows before the block, before the transaction and now
pub record Worked : Type 0 where
  pub block : RowMap
  pub start : RowMap
  pub now : RowMap
  pub level : ℕ
  pub round : ℕ
  pub special : Special
  pub failures : ℕ
  pub lender : ℕ

-- what no call changes; where the view tells its rows, these stay too
pub record IsFixed (tells : Bool) (old new : Worked) : Type 0 where
  pub level : new.level ≡ old.level
  pub round : new.round ≡ old.round
  pub special : new.special ≡ old.special
  pub failures : old.failures ≤ new.failures
  pub lender : new.lender ≡ old.lender
  pub block : tells ≡ true → new.block ≡ old.block

-- where it is no Stop, nothing that was there before the transaction changes
abbrev pub Starts : {F T : Type 0} → Result T (Stop F) → Worked → Worked → Type 0
Starts (Ok x) old new = new.start ≡ old.start
Starts (Err e) old new = ⊤

-- the rows after a step are what it gives, and its refusal is the one that it gives
abbrev pub Gives : {F T : Type 0} → Result RowMap Rule → Result T (Stop F) → RowMap → Type 0
Gives due (Ok x) new = due ≡ Ok new
Gives due (Err (stop.Rule r)) new = due ≡ Err r
Gives due (Err (stop.View f)) new = ⊤
Gives due (Err stop.Memory) new = ⊤

-- a failure comes only where the view's count rose
abbrev pub IsCounted : {F T : Type 0} → Result T (Stop F) → ℕ → ℕ → Type 0
IsCounted (Ok x) before now = ⊤
IsCounted (Err (stop.Rule r)) before now = ⊤
IsCounted (Err (stop.View f)) before now = Rose before now
IsCounted (Err stop.Memory) before now = ⊤

-- a call does what is due
pub record Does {F T : Type 0} (tells : Bool) (due : Result RowMap Rule) (old new : Worked) (result : Result T (Stop F)) : Type 0 where
  pub fixed : IsFixed tells old new
  pub gives : tells ≡ true → Gives due result new.now
  pub starts : tells ≡ true → Starts result old new
  pub cause : IsCounted result old.failures new.failures

-- the same, where the rows before the block are as this asks
pub record DoesWhere {F T : Type 0} (tells : Bool) (asks : Type 0) (due : Result RowMap Rule) (old new : Worked) (result : Result T (Stop F)) : Type 0 where
  pub fixed : IsFixed tells old new
  pub gives : tells ≡ true → asks → Gives due result new.now
  pub starts : tells ≡ true → Starts result old new
  pub cause : IsCounted result old.failures new.failures

-- a look-up never is a rule
abbrev pub IsNoRule : {F T : Type 0} → Result T (Stop F) → Type 0
IsNoRule (Ok x) = ⊤
IsNoRule (Err (stop.Rule r)) = ⊥
IsNoRule (Err (stop.View f)) = ⊤
IsNoRule (Err stop.Memory) = ⊤

pub record Looks {F T : Type 0} (tells : Bool) (old new : Worked) (result : Result T (Stop F)) : Type 0 where
  pub fixed : IsFixed tells old new
  pub now : tells ≡ true → new.now ≡ old.now
  pub start : tells ≡ true → new.start ≡ old.start
  pub cause : IsCounted result old.failures new.failures
  pub no_rule : IsNoRule result

-- a zero row is no row
abbrev pub nonzero : Option Row → Option Row
nonzero None = None
nonzero (Some row) = unless_zero row

-- the same of a whole transaction, which sets the start anew, where the rows before the block are as this asks
pub record IsDone {F T : Type 0} (tells : Bool) (asks : Type 0) (due : Result RowMap Rule) (old new : Worked) (result : Result T (Stop F)) : Type 0 where
  pub fixed : IsFixed tells old new
  pub gives : tells ≡ true → asks → Gives due result new.now
  pub cause : IsCounted result old.failures new.failures

-- every sound state has at most one creator of an id; a view shows only the least, so behind changes a second one could not be known
abbrev pub HasOneCreator : RowMap → ℕ → Type 0
HasOneCreator m id = (a b : Address) (r s : Row) → get m (key.Resource a id) ≡ Some r → get m (key.Resource b id) ≡ Some s → has_params r ≡ true → has_params s ≡ true → a ≡ b
