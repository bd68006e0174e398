-- What the calls of a step answer.
use Rattle.std.specs.Prelude.{◌≡◌, ℕ, map, Bool, true, ⊤, List, All}
use Rattle.std.specs.declared.result.Result.{Result}
use Rattle.std.specs.declared.result.Result.TheVariants.{Ok, Err}
use Rattle.al_block.specs.declared.header.Header.{Header}
use Rattle.al_deltas.specs.declared.delta.RoundDelta.{RoundDelta}
use Rattle.al_block.specs.Hashes.{header_hash_of}
use Rattle.al_rewards.specs.Totals.{raised}
use Rattle.al_moves.specs.Money.{IsWithin}
use Rattle.al_moves.specs.Totals.{counts}
use Rattle.al_rows.specs.Rows.{RowMap}
use Rattle.al_txn.specs.declared.txn.Item.{Item}
use Rattle.al_moves.specs.Changes.{change_of, AreChanges}
use Rattle.al_moves.specs.Created.{AreCreatorChanges, creator_change_of}
use Rattle.al_moves.specs.Online.{AreOnlineChanges, online_change_of}
use Rattle.al_overlay.specs.Work.{Worked, IsFixed}
use Rattle.al_eval.specs.declared.before.Before.{Before}
use Rattle.al_eval.specs.declared.before.EvalRefusal.{EvalRefusal}
use Rattle.al_eval.specs.Refusals.{Refusal, refusal_of, IsDue, IsCounted, IsNoRefusal}
use Rattle.al_eval.specs.Items.{Ran}
use Rattle.al_eval.specs.Body.{AsksOne}

-- ---- over a work

-- the rows after a call are those that are due, or its refusal is the one that is due
abbrev pub Gives : {F T : Type 0} → Result RowMap Refusal → Result T (EvalRefusal F) → RowMap → Type 0
Gives due (Ok x) new = due ≡ Ok new
Gives due (Err e) new = IsDue due (refusal_of e)

pub record Runs {F T : Type 0} (tells : Bool) (due : Result RowMap Refusal) (old new : Worked) (result : Result T (EvalRefusal F)) : Type 0 where
  pub fixed : IsFixed tells old new
  pub gives : tells ≡ true → Gives due result new.now
  pub cause : IsCounted result old.failures new.failures

-- the same, where the rows before the block are as this asks
pub record RunsWhere {F T : Type 0} (tells : Bool) (asks : Type 0) (due : Result RowMap Refusal) (old new : Worked) (result : Result T (EvalRefusal F)) : Type 0 where
  pub fixed : IsFixed tells old new
  pub gives : tells ≡ true → asks → Gives due result new.now
  pub cause : IsCounted result old.failures new.failures

-- the same of all transactions of a block, which give the count of all
abbrev pub GivesCount : {F : Type 0} → Result Ran Refusal → Result ℕ (EvalRefusal F) → RowMap → Type 0
GivesCount due (Ok counter) new = due ≡ Ok (record { rows = new; counter = counter })
GivesCount due (Err e) new = IsDue due (refusal_of e)

pub record RunsAll {F : Type 0} (tells : Bool) (asks : Type 0) (due : Result Ran Refusal) (old new : Worked) (result : Result ℕ (EvalRefusal F)) : Type 0 where
  pub fixed : IsFixed tells old new
  pub gives : tells ≡ true → asks → GivesCount due result new.now
  pub cause : IsCounted result old.failures new.failures

-- a look changes no row
pub record Sees {F T : Type 0} (tells : Bool) (old new : Worked) (result : Result T (EvalRefusal F)) : Type 0 where
  pub fixed : IsFixed tells old new
  pub now : tells ≡ true → new.now ≡ old.now
  pub cause : IsCounted result old.failures new.failures
  pub no_refusal : IsNoRefusal result

-- ---- over a view

-- the changes lead from the rows before to the rows that are due, or the refusal is the one that is due
abbrev pub Evals : {F : Type 0} → Result RowMap Refusal → RowMap → Result RoundDelta (EvalRefusal F) → Type 0
Evals due old (Ok d) = (n : RowMap) × (due ≡ Ok n) × AreChanges old n (map change_of d.changes)
Evals due old (Err e) = IsDue due (refusal_of e)

-- its changes of creators are those of the rows that are due
abbrev pub CreatorsFollow : {F : Type 0} → Result RowMap Refusal → RowMap → Result RoundDelta (EvalRefusal F) → Type 0
CreatorsFollow due old (Ok d) = (n : RowMap) → due ≡ Ok n → AreCreatorChanges old n (map creator_change_of d.creators)
CreatorsFollow due old (Err e) = ⊤

-- its changes of what consensus knows are those of the rows that are due
abbrev pub OnlineFollows : {F : Type 0} → Result RowMap Refusal → RowMap → Result RoundDelta (EvalRefusal F) → Type 0
OnlineFollows due old (Ok d) = (n : RowMap) → due ≡ Ok n → AreOnlineChanges old n (map online_change_of d.online)
OnlineFollows due old (Err e) = ⊤

-- the rows before a block have at most one creator of each id that it asks for
abbrev pub AskOne : RowMap → List Item → Type 0
AskOne m items = All (AsksOne m) items

-- what a block changes goes with its header
pub record IsDeltaOf (h : Header) (d : RoundDelta) : Type 0 where
  pub round : d.round ≡ h.round
  pub header : d.header ≡ h
  pub hash : d.hash ≡ header_hash_of h

-- the totals of a delta are those of the rows that are due, counted anew at its level, where those before the block were, and there is not too much money to count
abbrev pub TotalsFollow : {F : Type 0} → Result RowMap Refusal → Before → Header → RowMap → Result RoundDelta (EvalRefusal F) → Type 0
TotalsFollow due s h old (Ok d) = (n : RowMap) → due ≡ Ok n → raised h.level s.totals ≡ counts h.level old → IsWithin h.level old → IsWithin h.level n → d.totals ≡ counts h.level n
TotalsFollow due s h old (Err e) = ⊤
