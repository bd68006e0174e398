-- The ranges of an account row that was read.
use Rattle.std.proofs.Common.{◌≡◌, ◌≤◌, ℕ, Bool, true, false, nat_le, List, None, codes, refl}
use Rattle.std.proofs.lemmas.Bool.{leb-true}
use Rattle.al_msgpack.specs.declared.val.Entry.{Entry}
use Rattle.al_record.specs.Columns.{field_fault, first_fault, heads, number_of, range_fault, rules_of, unless_range, value_at}
use Rattle.al_record.proofs.Engine.{first_none}
use Rattle.al_row_records.specs.Tables.{account_fields}

passes : (ok : Bool) (name : List ℕ) → unless_range ok name ≡ None → ok ≡ true
passes true name h = refl
passes false name h = absurd cc

-- the number of a status is at most 2
pub status_within : (es : List Entry) → first_fault (rules_of account_fields) es ≡ None → number_of (value_at (codes "a") es) ≤ 2
status_within es h =
    let ranges = (first_none (field_fault (heads (rules_of account_fields)) es) (range_fault (rules_of account_fields) es) h).1 in
    let first = (first_none _ _ ranges).0 in
    leb-true (number_of (value_at (codes "a") es)) 2 (passes (nat_le (number_of (value_at (codes "a") es)) 2) (codes "a") first)
