-- One step after another, each of which keeps something of the rows or is refused by a rule other than 41 and 53.
use Rattle.std.proofs.Common.{◌≡◌, refl, Bool, true, false, if◌then◌else◌, Option, None, Some, Result, Ok, Err, IfSome}
use Rattle.al_rows.specs.Rows.{RowMap}
use Rattle.al_overlay.specs.declared.rule.Rule.{Rule}
use Rattle.al_overlay.specs.Rules.{then_do}
use Rattle.al_resources.specs.Kept.{Ends}

pub ends_then : (P Q : RowMap → Type 0) (due : Result RowMap Rule) (f : RowMap → Result RowMap Rule) → Ends P due → ((n : RowMap) → P n → Ends Q (f n)) → Ends Q (then_do due f)
ends_then P Q (Ok n) f h g = g n h
ends_then P Q (Err r) f h g = h

pub ends_if : (P : RowMap → Type 0) (b : Bool) (x y : Result RowMap Rule) → (b ≡ true → Ends P x) → (b ≡ false → Ends P y) → Ends P (if b then x else y)
ends_if P true x y h g = h refl
ends_if P false x y h g = g refl

-- what is kept tells something else
pub ends_as : (P Q : RowMap → Type 0) (due : Result RowMap Rule) → ((n : RowMap) → P n → Q n) → Ends P due → Ends Q due
ends_as P Q (Ok n) f h = f n h
ends_as P Q (Err r) f h = h

-- ---- what holds where something is told

pub some_more : {A : Type 0} (P Q : A → Type 0) (o : Option A) → ((x : A) → P x → Q x) → IfSome o P → IfSome o Q
some_more P Q None f h = tt
some_more P Q (Some x) f h = f x h

pub some_both : {A : Type 0} (P Q R : A → Type 0) (o : Option A) → ((x : A) → P x → Q x → R x) → IfSome o P → IfSome o Q → IfSome o R
some_both P Q R None f h g = tt
some_both P Q R (Some x) f h g = f x h g
