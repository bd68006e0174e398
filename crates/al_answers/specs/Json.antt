-- JSON objects that hold no floats, so that the text of each is exact, by tables of their members.
use Rattle.std.specs.Prelude.{ℕ, Bool, true, false, ◌==◌, List, [], ◌∷◌, if◌then◌else◌}
use Rattle.std.specs.declared.option.Option.{Option}
use Rattle.std.specs.declared.option.Option.TheVariants.{None, Some}
use Rattle.std.specs.Borrow.{Bor}
use Rattle.std.specs.List.{list_all}
use Rattle.hex.specs.Hex.{encode_lower}
use Rattle.serde_json.specs.Data.{number, unsigned, boolean, string, object, Members, no_members, put}
use Rattle.al_base.specs.declared.address.Address.{Address}
use Rattle.al_digest.specs.Texts.{hash_text_of, address_text_of}
use Rattle.al_answers.specs.HeaderFields.{field_text}
use Rattle.al_answers.specs.declared.objects.Shown.{Shown}
use Rattle.al_answers.specs.declared.objects.Shown.TheVariants as lines

-- ---- values and fields

mutual
  -- what an answer shows under a key, or that the key is left out
  pub data Json : Type 0 where
    left_out : Json
    whole : ℕ → Json
    flag : Bool → Json
    text : List ℕ → Json
    nested : Fields → Json

  -- the fields of an object
  pub data Fields : Type 0 where
    no_fields : Fields
    field : List ℕ → Json → Fields → Fields

-- the members with those of the fields, each in its place
abbrev mutual
  pub put_fields : Fields → Members → Members
  put_fields no_fields ms = ms
  put_fields (field key j fs) ms = put_fields fs (put_json key j ms)

  pub put_json : List ℕ → Json → Members → Members
  put_json key left_out ms = ms
  put_json key (whole n) ms = put key (number (unsigned n)) ms
  put_json key (flag b) ms = put key (boolean b) ms
  put_json key (text s) ms = put key (string s) ms
  put_json key (nested fs) ms = put key (object (put_fields fs no_members)) ms

abbrev pub members_of : Fields → Members
members_of fs = put_fields fs no_members

-- a table of keys, each with what it shows
abbrev pub Table : Type 0
Table = List (List ℕ × Json)

abbrev pub fields : Table → Fields
fields [] = no_fields
fields (row ∷ rows) = field row.0 row.1 (fields rows)

-- the object of a table
abbrev pub object_of : Table → Json
object_of rows = nested (fields rows)

-- ---- texts

-- bytes in lower-case hexadecimal
abbrev pub hex_of : List ℕ → Json
hex_of bytes = text (encode_lower bytes)

abbrev pub address_of : Address → Json
address_of a = text (address_text_of a)

-- a digest by its 52 letters
abbrev pub hash_of : List ℕ → Json
hash_of hash = text (hash_text_of hash)

-- ---- values that may be left out

abbrev pub unless_zero : ℕ → Json
unless_zero n = if n == 0 then left_out else whole n

abbrev pub unless_false : Bool → Json
unless_false b = if b then flag true else left_out

abbrev pub is_empty : List ℕ → Bool
is_empty [] = true
is_empty (b ∷ bs) = false

abbrev pub unless_empty : List ℕ → Json
unless_empty bytes = if is_empty bytes then left_out else hex_of bytes

abbrev pub is_all_zero : List ℕ → Bool
is_all_zero bytes = list_all (λ b. b == 0) bytes

abbrev pub unless_all_zero : List ℕ → Json
unless_all_zero bytes = if is_all_zero bytes then left_out else hex_of bytes

-- an address, unless it is zero
abbrev pub unless_nobody : Address → Json
unless_nobody a = if is_all_zero a.0 then left_out else address_of a

abbrev pub if_known : {A : Type 0} → (A → Json) → Option A → Json
if_known f None = left_out
if_known f (Some x) = f x

-- ---- the lines of a table in the code

abbrev pub json_of : Shown → Json
json_of (lines.Whole n) = whole n
json_of (lines.UnlessZero n) = unless_zero n
json_of (lines.IfKnown n) = if_known (λ k. whole k) n
json_of (lines.Flag b) = flag b
json_of (lines.UnlessFalse b) = unless_false b
json_of (lines.Text s) = text s.now
json_of (lines.FieldIfKnown f) = if_known (λ k. text (field_text k)) f
json_of (lines.Hex b) = hex_of b.now
json_of (lines.UnlessEmpty b) = unless_empty b.now
json_of (lines.UnlessAllZero b) = unless_all_zero b.now
json_of (lines.HexIfKnown b) = if_known hex_of b.now
json_of (lines.Address a) = address_of a.now
json_of (lines.UnlessNobody a) = unless_nobody a.now
json_of (lines.AddressIfKnown a) = if_known address_of a.now
json_of (lines.Hash h) = hash_of h.now
json_of (lines.HashIfKnown h) = if_known hash_of h.now

abbrev pub fields_of : List (Bor (List ℕ) × Shown) → Fields
fields_of [] = no_fields
fields_of (l ∷ ls) = field l.0.now (json_of l.1) (fields_of ls)
