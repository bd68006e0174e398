-- The spelling of what consensus knows of an account that is online.
use Rattle.std.specs.Prelude.{◌≡◌, ℕ, codes, List, [], ◌∷◌, None}
use Rattle.al_base.specs.declared.online.OnlineData.{OnlineData}
use Rattle.al_msgpack.specs.declared.val.Val.{out-Val}
use Rattle.al_msgpack.specs.declared.val.Val.TheVariants as values
use Rattle.al_msgpack.specs.Places.{IsSpelling}
use Rattle.al_record.specs.Columns.{FieldOf, Format, number, up_to, array, member_open, table}
use Rattle.al_rows.specs.Limits.{max_balance}

-- its fields, under the names that they have in an account's row
abbrev pub online_fields : List (FieldOf OnlineData)
online_fields =
    up_to (codes "b") max_balance (λ d. d.balance) ∷
    number (codes "c") (λ d. d.base) ∷
    array (codes "e") 32 (λ d. d.vote) ∷
    array (codes "f") 32 (λ d. d.selection) ∷
    number (codes "h") (λ d. d.first) ∷
    number (codes "i") (λ d. d.last) ∷
    number (codes "j") (λ d. d.dilution) ∷
    []

abbrev pub online : Format OnlineData
online = table online_fields

-- the input is the spelling of these data, in range
pub record IsOnline (input : List ℕ) (d : OnlineData) : Type 0 where
  pub spells : IsSpelling (values.Map (online.write d)) input
  pub sound : member_open online.fault (out-Val (values.Map (online.write d))) ≡ None
