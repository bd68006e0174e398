use Rattle.std.proofs.Common.{◌≡◌, [], true, sym, subst, arith}
use Rattle.std.proofs.lemmas.List.Elements.{All-nil}
use Rattle.std.specs.List.Sorted.{IsStrictlySortedBy}
use Rattle.std.specs.Option.{option_copied}
use Rattle.al_base.specs.Keys.{key_cmp}
use Rattle.al_rows.specs.Above.{AreRows, IsStored, is_above}
use Rattle.al_rows.specs.declared.stored.Keyed.{Keyed}
use Rattle.al_catch_tests.proofs.writing.NoRowsRowsAt.rows_after.Goals as goal

none_rise : IsStrictlySortedBy key_cmp []
unfolding IsStrictlySortedBy
none_rise = tt

pub returns-clause-rows : goal.returns-clause-rows
returns-clause-rows c =
    let after = option_copied c.args._after in
    subst (AreRows after c.args._max) (sym c.new.ensures) (record { few = omega arith; rising = none_rise; above = All-nil (λ (r : Keyed). is_above after r.key ≡ true); kept = All-nil (λ (r : Keyed). IsStored r.key r.stored) })
