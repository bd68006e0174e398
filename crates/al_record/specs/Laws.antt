-- The laws of records, over any table of fields.
use Rattle.std.specs.Prelude.{ℕ, suc, ◌≡◌, ◌<◌, ◌^◌, true, List, [], ◌∷◌, length, map, None, Result, Ok, Err}
use Rattle.std.specs.List.{AllByRecursion, list_all}
use Rattle.al_msgpack.specs.declared.val.Val.TheVariants as values
use Rattle.al_msgpack.specs.declared.val.Entry.{Entry}
use Rattle.al_msgpack.specs.Grammar.{AreBytes}
use Rattle.al_msgpack.specs.Canonical.{IsCanonical}
use Rattle.al_msgpack.specs.Rising.{rises, are_canonical}
use Rattle.al_record.specs.declared.fault.ReadError.{ReadError}
use Rattle.al_record.specs.declared.fault.ReadError.TheVariants as errors
use Rattle.al_record.specs.Columns.{FieldOf, number, up_to, flag, text, bytes, array, addresses, inner, inners, rule, put, table, entries, IsRecord, AllShown}

-- the names of a table, which are to stand in byte order, none twice
abbrev pub names_of : {X : Type 0} → List (FieldOf X) → List (List ℕ)
names_of fs = map (λ f. (rule f).name) fs

-- the answer that is owed for the record of x
abbrev pub Answers : {X : Type 0} → X → Result X ReadError → Type 0
Answers x (Ok y) = y ≡ x
Answers x (Err e) = e ≡ errors.Memory

-- each value is in its range
abbrev pub InRange : {X : Type 0} → List (FieldOf X) → X → Type 0
InRange [] x = Unit {0}
InRange (f ∷ fs) x = ((rule f).fault (put f x) ≡ None) × InRange fs x

-- two values agree on a field
abbrev pub Agree : {X : Type 0} → FieldOf X → X → X → Type 0
Agree (number name get) x y = get x ≡ get y
Agree (up_to name most get) x y = get x ≡ get y
Agree (flag name get) x y = get x ≡ get y
Agree (text name get) x y = get x ≡ get y
Agree (bytes name least most get) x y = get x ≡ get y
Agree (array name len get) x y = get x ≡ get y
Agree (addresses name most get) x y = get x ≡ get y
Agree (inner name fault get) x y = get x ≡ get y
Agree (inners name limit fault get) x y = get x ≡ get y

abbrev pub AllAgree : {X : Type 0} → List (FieldOf X) → X → X → Type 0
AllAgree [] x y = Unit {0}
AllAgree (f ∷ fs) x y = Agree f x y × AllAgree fs x y

-- the inner records have keys that rise at each level
abbrev pub InnerRises : {X : Type 0} → FieldOf X → X → Type 0
InnerRises (inner name fault get) x = are_canonical (get x) ≡ true
InnerRises (inners name limit fault get) x = list_all are_canonical (get x) ≡ true
InnerRises f x = Unit {0}

abbrev pub AllInnerRise : {X : Type 0} → List (FieldOf X) → X → Type 0
AllInnerRise [] x = Unit {0}
AllInnerRise (f ∷ fs) x = InnerRises f x × AllInnerRise fs x

-- bytes that a length in the format can count
abbrev pub IsShort : List ℕ → Type 0
IsShort b = AreBytes b × (length b < 2 ^ 32)

-- the field's value has a spelling, with containers at most so deep
abbrev pub IsSpellable : {X : Type 0} → ℕ → FieldOf X → X → Type 0
IsSpellable depth (number name get) x = get x < 2 ^ 64
IsSpellable depth (up_to name most get) x = get x < 2 ^ 64
IsSpellable depth (flag name get) x = Unit {0}
IsSpellable depth (text name get) x = IsShort (get x)
IsSpellable depth (bytes name least most get) x = IsShort (get x)
IsSpellable depth (array name len get) x = IsShort (get x)
IsSpellable depth (addresses name most get) x = IsCanonical depth (values.List (map (λ a. values.Bin a) (get x)))
IsSpellable depth (inner name fault get) x = IsCanonical depth (values.Map (get x))
IsSpellable depth (inners name limit fault get) x = IsCanonical depth (values.List (map (λ es. values.Map es) (get x)))

abbrev pub AllSpellable : {X : Type 0} → ℕ → List (FieldOf X) → X → Type 0
AllSpellable depth [] x = Unit {0}
AllSpellable depth (f ∷ fs) x = IsSpellable depth f x × AllSpellable depth fs x

-- what is written of a value in range is its record
abbrev pub WritesRecord : Type 0 → Type 0
WritesRecord X = (fs : List (FieldOf X)) (x : X) → rises (names_of fs) ≡ true → InRange fs x → IsRecord (table fs) x (entries fs x)

-- under each name stands what the value's field says
abbrev pub ShowsFields : Type 0 → Type 0
ShowsFields X = (fs : List (FieldOf X)) (x : X) (es : List Entry) → rises (names_of fs) ≡ true → IsRecord (table fs) x es → AllShown fs x es

-- values with one record agree on each field
abbrev pub DeterminesFields : Type 0 → Type 0
DeterminesFields X = (fs : List (FieldOf X)) (x y : X) (es : List Entry) → rises (names_of fs) ≡ true → IsRecord (table fs) x es → IsRecord (table fs) y es → AllAgree fs x y

-- what is written has keys that rise at each level
abbrev pub WritesRising : Type 0 → Type 0
WritesRising X = (fs : List (FieldOf X)) (x : X) → rises (names_of fs) ≡ true → AllInnerRise fs x → are_canonical (entries fs x) ≡ true

-- what is written has a spelling, one level deeper than its fields
abbrev pub WritesCanonical : Type 0 → Type 0
WritesCanonical X = (depth : ℕ) (fs : List (FieldOf X)) (x : X) → rises (names_of fs) ≡ true → AllByRecursion IsShort (names_of fs) → length fs < 2 ^ 32 → AllSpellable depth fs x → IsCanonical (suc depth) (values.Map (entries fs x))
