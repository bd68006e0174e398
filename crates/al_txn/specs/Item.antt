-- The entries of a payset.
use Rattle.std.specs.Prelude.{◌≡◌, ◌++◌, ℕ, suc, codes, length, map, List, [], ◌∷◌, Option, Some, None, Result, Ok, Err, if◌then◌else◌}
use Rattle.std.specs.Str.{bytes_eq}
use Rattle.al_msgpack.specs.declared.val.Val.{Val, out-Val}
use Rattle.al_msgpack.specs.declared.val.Val.TheVariants as values
use Rattle.al_msgpack.specs.declared.val.Entry.{Entry}
use Rattle.al_record.specs.declared.fault.Fault.{Fault}
use Rattle.al_record.specs.declared.fault.Fault.TheVariants.{Field, Range}
use Rattle.al_txn.specs.declared.txn.Item.{Item}
use Rattle.al_txn.specs.declared.item.ItemFault.{ItemFault}
use Rattle.al_txn.specs.declared.item.ItemFault.TheVariants as faults
use Rattle.al_record.specs.Columns.{FieldOf, Format, entries, rules_of, record_field, records_field, first_fault, text_of, map_of, value_at, member_open, list_put, with_entry}
use Rattle.al_record.specs.Code.{count_some}
use Rattle.al_msgpack.specs.Spelled.{string_head, map_head, entries_spelled}
use Rattle.al_bodies.specs.declared.effect.Effect.{Effect}
use Rattle.al_txn.specs.Txn.{txn}
use Rattle.al_bodies.specs.Effect.{effect}

abbrev pub item_fields : ℕ → List (FieldOf Item)
item_fields most =
    records_field (codes "fx") (Some most) effect (λ i. i.effects) ∷
    record_field (codes "txn") txn (λ i. i.txn) ∷
    []

-- effects stand only beside a call of an application
abbrev pub most_effects : List Entry → ℕ
most_effects es = if bytes_eq (text_of (value_at (codes "type") (map_of (value_at (codes "txn") es)))) (codes "appl") then 256 else 0

abbrev pub item : Format Item
item = record {
  write = entries (item_fields 256);
  fault = λ es. first_fault (rules_of (item_fields (most_effects es))) es;
}

-- the list of the effects' records, unless there is none
abbrev pub effects_put : List Effect → Option Val
effects_put xs = list_put (map (λ es. values.Map es) (map effect.write xs))

-- what stands before the transaction in the spelling of an entry
abbrev pub item_front : List Effect → List ℕ
item_front xs = map_head (suc (count_some (effects_put xs ∷ []))) ++ (entries_spelled (with_entry (codes "fx") (effects_put xs) []) ++ (string_head (length (codes "txn")) ++ codes "txn"))

-- The first fault of a value that should be an entry.
abbrev pub item_fault : Val → Option Fault
item_fault v = member_open item.fault (out-Val v)

-- The answer is the entry whose record the value is, or its first fault, unless memory ran out.
abbrev pub ReadsItem : Val → Result Item ItemFault → Type 0
ReadsItem v (Ok i) = (v ≡ values.Map (item.write i)) × (item_fault v ≡ None)
ReadsItem v (Err (faults.Field name)) = item_fault v ≡ Some (Field name)
ReadsItem v (Err (faults.Range name)) = item_fault v ≡ Some (Range name)
ReadsItem v (Err faults.Memory) = Unit {0}
