-- The record of totals, which is their spelling.
use Rattle.std.specs.Prelude.{◌≡◌, ℕ, codes, List, [], ◌∷◌}
use Rattle.al_msgpack.specs.declared.val.Val.TheVariants as values
use Rattle.al_msgpack.specs.Places.{IsSpelling}
use Rattle.al_record.specs.Columns.{FieldOf, Format, number, table}
use Rattle.al_rewards.specs.declared.totals.Totals.{Totals}

abbrev pub totals_fields : List (FieldOf Totals)
totals_fields =
    number (codes "fm") (λ t. t.offline.money) ∷
    number (codes "fu") (λ t. t.offline.units) ∷
    number (codes "l") (λ t. t.level) ∷
    number (codes "nm") (λ t. t.online.money) ∷
    number (codes "nu") (λ t. t.online.units) ∷
    number (codes "pm") (λ t. t.apart.money) ∷
    number (codes "pu") (λ t. t.apart.units) ∷
    []

abbrev pub totals : Format Totals
totals = table totals_fields

-- the bytes spell the record of the totals
abbrev pub SpellsTotals : Totals → List ℕ → Type 0
SpellsTotals t bytes = IsSpelling (values.Map (totals.write t)) bytes

-- bytes spell at most one
abbrev pub SpellsOneTotals : Type 0
SpellsOneTotals = (t u : Totals) (bytes : List ℕ) → SpellsTotals t bytes → SpellsTotals u bytes → t ≡ u
