-- The rules that refuse, with what they keep, and one step after another.
use Rattle.std.specs.Prelude.{ℕ}
use Rattle.std.specs.declared.option.Option.{Option}
use Rattle.std.specs.declared.option.Option.TheVariants.{None, Some}
use Rattle.std.specs.declared.result.Result.{Result}
use Rattle.std.specs.declared.result.Result.TheVariants.{Ok, Err}
use Rattle.al_base.specs.declared.address.Address.{Address}
use Rattle.al_rows.specs.Rows.{RowMap}
use Rattle.al_overlay.specs.declared.rule.Rule.{Rule}

-- the second step, where the first was not refused
abbrev pub then_do : {A B E : Type 0} → Result A E → (A → Result B E) → Result B E
then_do (Ok x) f = f x
then_do (Err e) f = Err e

abbrev pub plain_rule : ℕ → Rule
plain_rule number = record { number = number; has = None; needs = None; until = None; id = None; who = None }

abbrev pub too_little : ℕ → ℕ → ℕ → Address → Rule
too_little number has needs who = record (plain_rule number) { has = Some has; needs = Some needs; who = Some who }

-- the same of no account
abbrev pub too_few : ℕ → ℕ → ℕ → Rule
too_few number has needs = record (plain_rule number) { has = Some has; needs = Some needs }

abbrev pub of_account : ℕ → Address → Rule
of_account number who = record (plain_rule number) { who = Some who }

abbrev pub of_id : ℕ → ℕ → Rule
of_id number id = record (plain_rule number) { id = Some id }

abbrev pub held_until : ℕ → ℕ → Rule
held_until number until = record (plain_rule number) { until = Some until }

abbrev pub unless_refused : Option Rule → RowMap → Result RowMap Rule
unless_refused None m = Ok m
unless_refused (Some r) m = Err r
