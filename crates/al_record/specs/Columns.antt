-- Records: tables of fields in byte order of their names.
use Rattle.std.specs.Prelude.{◌≡◌, ◌==◌, ◌&&◌, ◌||◌, is_none, ℕ, Bool, true, false, not, nat_le, List, [], ◌∷◌, length, map, replicate, Option, Some, None, Result, Ok, Err, if◌then◌else◌}
use Rattle.std.specs.Str.{bytes_eq}
use Rattle.std.specs.List.{list_all, list_any}
use Rattle.al_msgpack.specs.declared.val.Val.{Val, out-Val}
use Rattle.al_msgpack.specs.declared.val.Val.TheVariants as values
use Rattle.al_msgpack.specs.declared.val.Val.TheOpen.{Val-F}
use Rattle.al_msgpack.specs.declared.val.Entry.{Entry}
use Rattle.al_record.specs.declared.shape.Shape.{Shape}
use Rattle.al_record.specs.declared.shape.Shape.TheVariants as shapes
use Rattle.al_record.specs.declared.fault.Fault.{Fault}
use Rattle.al_record.specs.declared.fault.Fault.TheVariants.{Field, Range}
use Rattle.al_record.specs.declared.fault.ReadError.{ReadError}
use Rattle.al_record.specs.declared.fault.ReadError.TheVariants as errors

abbrev pub Open : Type 0
Open = Val-F Val Entry

abbrev pub is_empty : {A : Type 0} → List A → Bool
is_empty [] = true
is_empty (x ∷ xs) = false

-- n bytes that are all zero
abbrev pub is_zero_array : ℕ → List ℕ → Bool
is_zero_array n bytes = (length bytes == n) && list_all (λ b. b == 0) bytes

-- what stands in a value of each family
abbrev pub number_in : Open → ℕ
number_in (Val-F.Num n) = n
number_in v = 0

abbrev pub flag_in : Open → Bool
flag_in (Val-F.Flag b) = b
flag_in v = false

abbrev pub text_in : Open → List ℕ
text_in (Val-F.Str b) = b
text_in v = []

abbrev pub bytes_in : Open → List ℕ
bytes_in (Val-F.Bin b) = b
bytes_in v = []

abbrev pub array_in : ℕ → Open → List ℕ
array_in n (Val-F.Bin b) = if length b == n then b else replicate n 0
array_in n v = replicate n 0

abbrev pub list_in : Open → List Val
list_in (Val-F.List vs) = vs
list_in v = []

abbrev pub map_in : Open → List Entry
map_in (Val-F.Map es) = es
map_in v = []

-- of the shape's family, and not its zero value
abbrev pub fits_open : Shape → Open → Bool
fits_open shapes.Number (Val-F.Num n) = not (n == 0)
fits_open (shapes.UpTo most) (Val-F.Num n) = not (n == 0)
fits_open shapes.Flag (Val-F.Flag b) = b
fits_open shapes.Text (Val-F.Str b) = not (is_empty b)
fits_open (shapes.Bytes least most) (Val-F.Bin b) = not (is_empty b)
fits_open (shapes.Array n) (Val-F.Bin b) = not (is_zero_array n b)
fits_open (shapes.Addresses most) (Val-F.List vs) = not (is_empty vs)
fits_open shapes.List (Val-F.List vs) = not (is_empty vs)
fits_open shapes.Map (Val-F.Map es) = not (is_empty es)
fits_open s v = false

abbrev pub fits : Shape → Val → Bool
fits s v = fits_open s (out-Val v)

-- 32 bytes
abbrev pub is_address_open : Open → Bool
is_address_open (Val-F.Bin b) = length b == 32
is_address_open v = false

abbrev pub is_address : Val → Bool
is_address v = is_address_open (out-Val v)

abbrev pub address_in : Val → List ℕ
address_in v = array_in 32 (out-Val v)

abbrev pub no_doubles : List (List ℕ) → Bool
no_doubles [] = true
no_doubles (a ∷ more) = not (list_any (λ b. bytes_eq a b) more) && no_doubles more

abbrev pub are_addresses : ℕ → List Val → Bool
are_addresses most vs = nat_le (length vs) most && (list_all is_address vs && no_doubles (map address_in vs))

-- the value under a name
abbrev pub value_at : List ℕ → List Entry → Option Val
value_at name [] = None
value_at name (e ∷ es) = if bytes_eq name e.key then Some e.val else value_at name es

abbrev pub read_as : {B : Type 0} → (Open → B) → B → Option Val → B
read_as f zero None = zero
read_as f zero (Some v) = f (out-Val v)

abbrev pub number_of : Option Val → ℕ
number_of = read_as number_in 0

abbrev pub flag_of : Option Val → Bool
flag_of = read_as flag_in false

abbrev pub text_of : Option Val → List ℕ
text_of = read_as text_in []

abbrev pub bytes_of : Option Val → List ℕ
bytes_of = read_as bytes_in []

abbrev pub array_of : ℕ → Option Val → List ℕ
array_of n = read_as (array_in n) (replicate n 0)

abbrev pub list_of : Option Val → List Val
list_of = read_as list_in []

abbrev pub map_of : Option Val → List Entry
map_of = read_as map_in []

-- within the shape's range; an absent field has its zero value
abbrev pub in_range : Shape → Option Val → Bool
in_range shapes.Number o = true
in_range (shapes.UpTo most) o = nat_le (number_of o) most
in_range shapes.Flag o = true
in_range shapes.Text o = true
in_range (shapes.Bytes least most) o = nat_le least (length (bytes_of o)) && nat_le (length (bytes_of o)) most
in_range (shapes.Array n) o = is_none o || (length (bytes_of o) == n)
in_range (shapes.Addresses most) o = are_addresses most (list_of o)
in_range shapes.List o = true
in_range shapes.Map o = true

-- how a value is written: left out where it is zero
abbrev pub unless : Bool → Val → Option Val
unless zero v = if zero then None else Some v

abbrev pub number_put : ℕ → Option Val
number_put n = unless (n == 0) (values.Num n)

abbrev pub flag_put : Bool → Option Val
flag_put b = unless (not b) (values.Flag b)

abbrev pub text_put : List ℕ → Option Val
text_put b = unless (is_empty b) (values.Str b)

abbrev pub bytes_put : List ℕ → Option Val
bytes_put b = unless (is_empty b) (values.Bin b)

abbrev pub array_put : ℕ → List ℕ → Option Val
array_put len b = unless (is_zero_array len b) (values.Bin b)

abbrev pub list_put : List Val → Option Val
list_put vs = unless (is_empty vs) (values.List vs)

abbrev pub map_put : List Entry → Option Val
map_put es = unless (is_empty es) (values.Map es)

-- A field of X: its name, its range, and its value.
pub data FieldOf (X : Type 0) : Type 0 where
  number : (name : List ℕ) → (X → ℕ) → FieldOf X
  up_to : (name : List ℕ) (most : ℕ) → (X → ℕ) → FieldOf X
  flag : (name : List ℕ) → (X → Bool) → FieldOf X
  text : (name : List ℕ) → (X → List ℕ) → FieldOf X
  bytes : (name : List ℕ) (least most : ℕ) → (X → List ℕ) → FieldOf X
  array : (name : List ℕ) (len : ℕ) → (X → List ℕ) → FieldOf X
  addresses : (name : List ℕ) (most : ℕ) → (X → List (List ℕ)) → FieldOf X
  inner : (name : List ℕ) → (List Entry → Option Fault) → (X → List Entry) → FieldOf X
  inners : (name : List ℕ) (limit : Option ℕ) → (List Entry → Option Fault) → (X → List (List Entry)) → FieldOf X

abbrev pub first_of : Option Fault → Option Fault → Option Fault
first_of None g = g
first_of (Some f) g = Some f

-- a member of a list of records
abbrev pub member_open : (List Entry → Option Fault) → Open → Option Fault
member_open fault (Val-F.Map es) = fault es
member_open fault v = Some (Field [])

abbrev pub members_fault : (List Entry → Option Fault) → List Val → Option Fault
members_fault fault [] = None
members_fault fault (v ∷ vs) = first_of (member_open fault (out-Val v)) (members_fault fault vs)

abbrev pub unless_range : Bool → List ℕ → Option Fault
unless_range ok name = if ok then None else Some (Range name)

abbrev pub limit_fault : Option ℕ → List ℕ → ℕ → Option Fault
limit_fault None name n = None
limit_fault (Some most) name n = unless_range (nat_le n most) name

-- What the passes read of a field: its name, its shape, and the fault that the second pass finds at its place.
pub record Rule : Type 0 where
  pub name : List ℕ
  pub shape : Shape
  pub fault : Option Val → Option Fault

abbrev pub flat : List ℕ → Shape → Rule
flat name shape = record { name = name; shape = shape; fault = λ o. unless_range (in_range shape o) name }

abbrev pub rule : {X : Type 0} → FieldOf X → Rule
rule (number name get) = flat name shapes.Number
rule (up_to name most get) = flat name (shapes.UpTo most)
rule (flag name get) = flat name shapes.Flag
rule (text name get) = flat name shapes.Text
rule (bytes name least most get) = flat name (shapes.Bytes least most)
rule (array name len get) = flat name (shapes.Array len)
rule (addresses name most get) = flat name (shapes.Addresses most)
rule (inner name fault get) = record { name = name; shape = shapes.Map; fault = λ o. fault (map_of o) }
rule (inners name limit fault get) = record { name = name; shape = shapes.List; fault = λ o. first_of (limit_fault limit name (length (list_of o))) (members_fault fault (list_of o)) }

abbrev pub put : {X : Type 0} → FieldOf X → X → Option Val
put (number name get) x = number_put (get x)
put (up_to name most get) x = number_put (get x)
put (flag name get) x = flag_put (get x)
put (text name get) x = text_put (get x)
put (bytes name least most get) x = bytes_put (get x)
put (array name len get) x = array_put len (get x)
put (addresses name most get) x = list_put (map (λ a. values.Bin a) (get x))
put (inner name fault get) x = map_put (get x)
put (inners name limit fault get) x = list_put (map (λ es. values.Map es) (get x))

-- what the first pass reads of a field: its name and its shape
abbrev pub Head : Type 0
Head = List ℕ × Shape

abbrev pub heads : List Rule → List Head
heads rs = map (λ r. (r.name, r.shape)) rs

abbrev pub fitting : List Head → Entry → Bool
fitting [] e = false
fitting (h ∷ hs) e = if bytes_eq h.0 e.key then fits h.1 e.val else fitting hs e

-- the first pass, over what is there
abbrev pub field_fault : List Head → List Entry → Option Fault
field_fault hs [] = None
field_fault hs (e ∷ es) = if fitting hs e then field_fault hs es else Some (Field e.key)

-- the second pass, in the order of the fields
abbrev pub range_fault : List Rule → List Entry → Option Fault
range_fault [] es = None
range_fault (r ∷ rs) es = first_of (r.fault (value_at r.name es)) (range_fault rs es)

abbrev pub first_fault : List Rule → List Entry → Option Fault
first_fault rs es = first_of (field_fault (heads rs) es) (range_fault rs es)

abbrev pub rules_of : {X : Type 0} → List (FieldOf X) → List Rule
rules_of fs = map rule fs

abbrev pub with_entry : List ℕ → Option Val → List Entry → List Entry
with_entry name None es = es
with_entry name (Some v) es = record { key = name; val = v } ∷ es

-- the fields of x that are not zero
abbrev pub entries : {X : Type 0} → List (FieldOf X) → X → List Entry
entries [] x = []
entries (f ∷ fs) x = with_entry (rule f).name (put f x) (entries fs x)

-- A kind of record: what it writes, and the first fault of what is there.
pub record Format (X : Type 0) : Type 0 where
  pub write : X → List Entry
  pub fault : List Entry → Option Fault

-- one table
abbrev pub table : {X : Type 0} → List (FieldOf X) → Format X
table fs = record { write = entries fs; fault = first_fault (rules_of fs) }

abbrev pub record_field : {X Y : Type 0} → List ℕ → Format Y → (X → Y) → FieldOf X
record_field name format get = inner name format.fault (λ x. format.write (get x))

abbrev pub records_field : {X Y : Type 0} → List ℕ → Option ℕ → Format Y → (X → List Y) → FieldOf X
records_field name limit format get = inners name limit format.fault (λ x. map format.write (get x))

-- es is the record of x: a field stands exactly where it is not zero, and each range holds
pub record IsRecord {X : Type 0} (format : Format X) (x : X) (es : List Entry) : Type 0 where
  pub fields : es ≡ format.write x
  pub sound : format.fault es ≡ None

-- what a function returned, unless memory ran out, is the value of the record, or the first fault
abbrev pub Fails : ReadError → Option Fault → Type 0
Fails errors.Memory f = Unit {0}
Fails (errors.Fault f) g = g ≡ Some f

abbrev pub Reads : {X : Type 0} → Format X → List Entry → Result X ReadError → Type 0
Reads format es (Ok x) = IsRecord format x es
Reads format es (Err e) = Fails e (format.fault es)

-- what a pass returned
abbrev pub Passes : Option Fault → Result (Unit {0}) ReadError → Type 0
Passes f (Ok u) = f ≡ None
Passes f (Err e) = Fails e f

-- each field of x is what is read under its name
abbrev pub Shows : {X : Type 0} → FieldOf X → X → Option Val → Type 0
Shows (number name get) x o = get x ≡ number_of o
Shows (up_to name most get) x o = get x ≡ number_of o
Shows (flag name get) x o = get x ≡ flag_of o
Shows (text name get) x o = get x ≡ text_of o
Shows (bytes name least most get) x o = get x ≡ bytes_of o
Shows (array name len get) x o = get x ≡ array_of len o
Shows (addresses name most get) x o = get x ≡ map address_in (list_of o)
Shows (inner name fault get) x o = get x ≡ map_of o
Shows (inners name limit fault get) x o = map (λ es. values.Map es) (get x) ≡ list_of o

abbrev pub AllShown : {X : Type 0} → List (FieldOf X) → X → List Entry → Type 0
AllShown [] x es = Unit {0}
AllShown (f ∷ fs) x es = Shows f x (value_at (rule f).name es) × AllShown fs x es

-- the same of a member of a list
abbrev pub ReadsOne : {X : Type 0} → Format X → Val → Result X ReadError → Type 0
ReadsOne format v (Ok x) = (values.Map (format.write x) ≡ v) × (member_open format.fault (out-Val v) ≡ None)
ReadsOne format v (Err e) = Fails e (member_open format.fault (out-Val v))

-- the same of a list of records
abbrev pub ReadsAll : {X : Type 0} → Format X → List Val → Result (List X) ReadError → Type 0
ReadsAll format vs (Ok xs) = (map (λ es. values.Map es) (map format.write xs) ≡ vs) × (members_fault format.fault vs ≡ None)
ReadsAll format vs (Err e) = Fails e (members_fault format.fault vs)
