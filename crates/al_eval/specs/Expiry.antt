-- The accounts that a header lists as expired.
use Rattle.std.specs.Prelude.{ℕ, ◌+◌, List, [], ◌∷◌}
use Rattle.std.specs.declared.option.Option.{Option}
use Rattle.std.specs.declared.option.Option.TheVariants.{None, Some}
use Rattle.std.specs.declared.result.Result.{Result}
use Rattle.std.specs.declared.result.Result.TheVariants.{Ok, Err}
use Rattle.al_base.specs.declared.address.Address.{Address}
use Rattle.al_rows.specs.Rows.{RowMap}
use Rattle.al_moves.specs.Keys as keys
use Rattle.al_overlay.specs.Rules.{then_do}
use Rattle.al_eval.specs.Refusals.{Refusal, expired}

-- the rows that are there, or the refusal at a place of the list
abbrev pub or_refused : ℕ → Option RowMap → Result RowMap Refusal
or_refused place None = Err (expired place)
or_refused place (Some m) = Ok m

-- from a place of the list on, one account after another goes offline. The first whose keys have not expired in the round is the refusal
abbrev pub all_expired : ℕ → ℕ → List Address → RowMap → Result RowMap Refusal
all_expired round place [] m = Ok m
all_expired round place (who ∷ more) m = then_do (or_refused place (keys.expired round who m)) (λ n. all_expired round (place + 1) more n)
