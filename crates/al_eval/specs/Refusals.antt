-- Why a block is refused, and what the refusals of the code stand for.
use Rattle.std.specs.Prelude.{◌≡◌, ℕ, ⊤}
use Rattle.std.specs.declared.result.Result.{Result}
use Rattle.std.specs.declared.result.Result.TheVariants.{Ok, Err}
use Rattle.al_base.specs.Causes.{Rose}
use Rattle.al_block.specs.declared.header.Field.{Field}
use Rattle.al_overlay.specs.declared.rule.Rule.{Rule}
use Rattle.al_eval.specs.declared.before.EvalRefusal.{EvalRefusal}
use Rattle.al_eval.specs.declared.before.EvalRefusal.TheVariants as answer

-- why a block is refused: a transaction breaks a rule, a header field is not what is due, the pool would keep less than its least, or the keys of a listed account have not expired
pub data Refusal : Type 0 where
  broken : (place : ℕ) (rule : Rule) → Refusal
  header : (field : Field) → Refusal
  pool_short : (pool owed : ℕ) → Refusal
  expired : (place : ℕ) → Refusal

-- what a refusal of the code stands for: one of the step, a failure of the view, or want of memory
pub data Verdict : Type 0 where
  refused : (refusal : Refusal) → Verdict
  failed : Verdict
  no_memory : Verdict

abbrev pub refusal_of : {F : Type 0} → EvalRefusal F → Verdict
refusal_of (answer.Broken place rule) = refused (broken place rule)
refusal_of (answer.Header f) = refused (header f)
refusal_of (answer.PoolShort pool owed) = refused (pool_short pool owed)
refusal_of (answer.Expired place) = refused (expired place)
refusal_of (answer.View f) = failed
refusal_of answer.Memory = no_memory

-- a refusal is the one that is due; where the view failed, or there was no memory, none is
abbrev pub IsDue : {X : Type 0} → Result X Refusal → Verdict → Type 0
IsDue due (refused r) = due ≡ Err r
IsDue due failed = ⊤
IsDue due no_memory = ⊤

-- a result is the one that is due
abbrev pub Answers : {F X : Type 0} → Result X Refusal → Result X (EvalRefusal F) → Type 0
Answers due (Ok x) = due ≡ Ok x
Answers due (Err e) = IsDue due (refusal_of e)

-- the view failed only where its count rose
abbrev pub IsCountedAs : Verdict → ℕ → ℕ → Type 0
IsCountedAs (refused r) before now = ⊤
IsCountedAs failed before now = Rose before now
IsCountedAs no_memory before now = ⊤

abbrev pub IsCounted : {F T : Type 0} → Result T (EvalRefusal F) → ℕ → ℕ → Type 0
IsCounted (Ok x) before now = ⊤
IsCounted (Err e) before now = IsCountedAs (refusal_of e) before now

-- a verdict of a call that looks at no view
abbrev pub IsUnseen : Verdict → Type 0
IsUnseen (refused r) = ⊤
IsUnseen failed = ⊥
IsUnseen no_memory = ⊤

abbrev pub LooksAtNone : {F T : Type 0} → Result T (EvalRefusal F) → Type 0
LooksAtNone (Ok x) = ⊤
LooksAtNone (Err e) = IsUnseen (refusal_of e)

-- a verdict of a call that refuses no block
abbrev pub IsFailure : Verdict → Type 0
IsFailure (refused r) = ⊥
IsFailure failed = ⊤
IsFailure no_memory = ⊤

abbrev pub IsNoRefusal : {F T : Type 0} → Result T (EvalRefusal F) → Type 0
IsNoRefusal (Ok x) = ⊤
IsNoRefusal (Err e) = IsFailure (refusal_of e)
