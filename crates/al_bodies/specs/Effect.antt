-- Effects of calls of applications.
use Rattle.std.specs.Prelude.{◌==◌, ℕ, codes, length, List, [], ◌∷◌, Option, Some, None, if◌then◌else◌}
use Rattle.std.specs.Str.{bytes_eq}
use Rattle.al_msgpack.specs.declared.val.Entry.{Entry}
use Rattle.al_base.specs.Name.{name_of}
use Rattle.al_base.specs.declared.name.BoxName.{BoxName}
use Rattle.al_record.specs.declared.fault.Fault.{Fault}
use Rattle.al_record.specs.declared.shape.Shape.TheVariants as shapes
use Rattle.al_bodies.specs.declared.body.Pay.{Pay}
use Rattle.al_bodies.specs.declared.body.AssetMove.{AssetMove}
use Rattle.al_bodies.specs.declared.effect.Inner.{Inner}
use Rattle.al_bodies.specs.declared.effect.Inner.TheVariants as inners_of
use Rattle.al_bodies.specs.declared.effect.Effect.{Effect}
use Rattle.al_bodies.specs.declared.effect.Effect.TheVariants as effects
use Rattle.al_record.specs.Columns.{FieldOf, Format, Rule, number, up_to, bytes, array, text, entries, rules_of, record_field, value_at, in_range, unless_range}
use Rattle.al_record.specs.Kinds.{by_name, text_kind, number_kind, kind_fault}
use Rattle.al_bodies.specs.Bodies.{pay, axfer}

-- an inner transaction: a type and that type's own fields
abbrev pub inner_pay : List (FieldOf Pay)
inner_pay = by_name (text (codes "type") (λ _. codes "pay") ∷ pay)

abbrev pub inner_axfer : List (FieldOf AssetMove)
inner_axfer = by_name (text (codes "type") (λ _. codes "axfer") ∷ axfer)

abbrev pub inner_rules : List ℕ → Option (List Rule)
inner_rules kind =
    if bytes_eq kind (codes "pay") then Some (rules_of inner_pay) else
    if bytes_eq kind (codes "axfer") then Some (rules_of inner_axfer) else
    None

abbrev pub inner_written : Inner → List Entry
inner_written (inners_of.Pay p) = entries inner_pay p
inner_written (inners_of.Move m) = entries inner_axfer m

abbrev pub inner_txn : Format Inner
inner_txn = record {
  write = inner_written;
  fault = λ es. kind_fault (codes "type") inner_rules es (text_kind (codes "type") es);
}

-- what an application is created with
pub record Creation : Type 0 where
  pub uints : ℕ
  pub slices : ℕ
  pub local_uints : ℕ
  pub local_slices : ℕ
  pub pages : ℕ
  pub state : List ℕ

-- each effect, by its number
abbrev pub create : List (FieldOf Creation)
create = by_name (
    number (codes "e") (λ _. 1) ∷
    up_to (codes "nu") 64 (λ c. c.uints) ∷
    up_to (codes "nb") 64 (λ c. c.slices) ∷
    up_to (codes "lu") 64 (λ c. c.local_uints) ∷
    up_to (codes "lb") 64 (λ c. c.local_slices) ∷
    up_to (codes "ep") 3 (λ c. c.pages) ∷
    bytes (codes "st") 0 8192 (λ c. c.state) ∷
    [])

-- no fields but the number
abbrev pub bare : ℕ → List (FieldOf (Unit {0}))
bare e = number (codes "e") (λ _. e) ∷ []

-- a state alone
abbrev pub with_state : ℕ → List (FieldOf (List ℕ))
with_state e =
    number (codes "e") (λ _. e) ∷
    bytes (codes "st") 0 8192 (λ state. state) ∷
    []

-- an address and its local state
abbrev pub set_local : List (FieldOf (List ℕ × List ℕ))
set_local = by_name (
    number (codes "e") (λ _. 5) ∷
    array (codes "ad") 32 (λ s. s.0) ∷
    bytes (codes "st") 0 8192 (λ s. s.1) ∷
    [])

-- The bytes of a box's name. In a specification its array may have any length, and only one of 64 bytes is a name.
abbrev pub whole_name : BoxName → List ℕ
whole_name n = if length n.bytes == 64 then name_of n else []

-- a box and its value
abbrev pub put_box : List (FieldOf (List ℕ × List ℕ))
put_box =
    number (codes "e") (λ _. 7) ∷
    bytes (codes "n") 1 64 (λ b. b.0) ∷
    bytes (codes "v") 0 32768 (λ b. b.1) ∷
    []

abbrev pub remove_box : List (FieldOf (List ℕ))
remove_box =
    number (codes "e") (λ _. 8) ∷
    bytes (codes "n") 1 64 (λ name. name) ∷
    []

abbrev pub inner_effect : List (FieldOf Inner)
inner_effect =
    number (codes "e") (λ _. 9) ∷
    record_field (codes "t") inner_txn (λ t. t) ∷
    []

abbrev pub effect_rules : ℕ → Option (List Rule)
effect_rules kind =
    if kind == 1 then Some (rules_of create) else
    if kind == 2 then Some (rules_of (with_state 2)) else
    if kind == 3 then Some (rules_of (bare 3)) else
    if kind == 4 then Some (rules_of (with_state 4)) else
    if kind == 5 then Some (rules_of set_local) else
    if kind == 6 then Some (rules_of (bare 6)) else
    if kind == 7 then Some (rules_of put_box) else
    if kind == 8 then Some (rules_of remove_box) else
    if kind == 9 then Some (rules_of inner_effect) else
    None

abbrev pub effect_written : Effect → List Entry
effect_written (effects.Create nu nb lu lb ep st) = entries create (record { uints = nu; slices = nb; local_uints = lu; local_slices = lb; pages = ep; state = st })
effect_written (effects.SetState state) = entries (with_state 2) state
effect_written effects.Remove = entries (bare 3) tt
effect_written (effects.OptIn state) = entries (with_state 4) state
effect_written (effects.SetLocal who state) = entries set_local (who.0, state)
effect_written effects.OptOut = entries (bare 6) tt
effect_written (effects.PutBox name value) = entries put_box (whole_name name, value)
effect_written (effects.RemoveBox name) = entries remove_box (whole_name name)
effect_written (effects.Inner t) = entries inner_effect t

abbrev pub effect : Format Effect
effect = record {
  write = effect_written;
  fault = λ es. kind_fault (codes "e") effect_rules es (number_kind (codes "e") es);
}

-- what an application's account sends by an effect
abbrev pub inner_in : Effect → ℕ
inner_in (effects.Inner i) = 1
inner_in e = 0

-- the fault of a box's name
abbrev pub name_fault : List Entry → Option Fault
name_fault es = unless_range (in_range (shapes.Bytes 1 64) (value_at (codes "n") es)) (codes "n")
