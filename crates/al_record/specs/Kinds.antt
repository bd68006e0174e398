-- Records that name their kind in one of their fields, and tables put together.
use Rattle.std.specs.Prelude.{◌≡◌, ◌++◌, ℕ, List, [], ◌∷◌, map, Option, Some, None, Result, Ok, Err, if◌then◌else◌}
use Rattle.std.specs.Ordering.{is_lt, nat_cmp}
use Rattle.std.specs.Cmp.Lexicographic.{slice_cmp}
use Rattle.al_msgpack.specs.declared.val.Val.{Val, out-Val}
use Rattle.al_msgpack.specs.declared.val.Entry.{Entry}
use Rattle.al_record.specs.declared.shape.Shape.{Shape}
use Rattle.al_record.specs.declared.shape.Shape.TheVariants as shapes
use Rattle.al_record.specs.declared.fault.Fault.{Fault}
use Rattle.al_record.specs.declared.fault.Fault.TheVariants.{Field, Range}
use Rattle.al_record.specs.declared.fault.ReadError.{ReadError}
use Rattle.al_record.specs.declared.fault.ReadError.TheVariants as errors
use Rattle.al_record.specs.Columns.{FieldOf, number, up_to, flag, text, bytes, array, addresses, inner, inners, rule, Rule, value_at, fits, text_in, number_in, first_fault}

-- a field of a part
abbrev pub on : {X Y : Type 0} → (X → Y) → FieldOf Y → FieldOf X
on f (number name get) = number name (λ x. get (f x))
on f (up_to name most get) = up_to name most (λ x. get (f x))
on f (flag name get) = flag name (λ x. get (f x))
on f (text name get) = text name (λ x. get (f x))
on f (bytes name least most get) = bytes name least most (λ x. get (f x))
on f (array name len get) = array name len (λ x. get (f x))
on f (addresses name most get) = addresses name most (λ x. get (f x))
on f (inner name fault get) = inner name fault (λ x. get (f x))
on f (inners name limit fault get) = inners name limit fault (λ x. get (f x))

-- fields in byte order of their names
abbrev pub placed : {X : Type 0} → FieldOf X → List (FieldOf X) → List (FieldOf X)
placed f [] = f ∷ []
placed f (g ∷ gs) = if is_lt (slice_cmp nat_cmp (rule f).name (rule g).name) then f ∷ g ∷ gs else g ∷ placed f gs

abbrev pub by_name : {X : Type 0} → List (FieldOf X) → List (FieldOf X)
by_name [] = []
by_name (f ∷ fs) = placed f (by_name fs)

-- the fields of a pair
abbrev pub both : {X Y : Type 0} → List (FieldOf X) → List (FieldOf Y) → List (FieldOf (X × Y))
both fs gs = by_name (map (on (λ p. p.0)) fs ++ map (on (λ p. p.1)) gs)

-- the field that names the kind
abbrev pub kind_at : {K : Type 0} → Shape → (Val → K) → List ℕ → Option Val → Result K Fault
kind_at shape of name None = Err (Range name)
kind_at shape of name (Some v) = if fits shape v then Ok (of v) else Err (Field name)

abbrev pub text_kind : List ℕ → List Entry → Result (List ℕ) Fault
text_kind name es = kind_at shapes.Text (λ v. text_in (out-Val v)) name (value_at name es)

abbrev pub number_kind : List ℕ → List Entry → Result ℕ Fault
number_kind name es = kind_at shapes.Number (λ v. number_in (out-Val v)) name (value_at name es)

-- the first fault where a kind has rules
abbrev pub ruled : List ℕ → List Entry → Option (List Rule) → Option Fault
ruled name es None = Some (Range name)
ruled name es (Some rs) = first_fault rs es

abbrev pub kind_fault : {K : Type 0} → List ℕ → (K → Option (List Rule)) → List Entry → Result K Fault → Option Fault
kind_fault name rules es (Err f) = Some f
kind_fault name rules es (Ok k) = ruled name es (rules k)

-- what a function returned, seen by a view, unless memory ran out
abbrev pub FailsAs : {Y : Type 0} → ReadError → Result Y Fault → Type 0
FailsAs errors.Memory r = Unit {0}
FailsAs (errors.Fault f) r = r ≡ Err f

abbrev pub Gives : {X Y : Type 0} → (X → Y) → Result X ReadError → Result Y Fault → Type 0
Gives view (Ok x) r = r ≡ Ok (view x)
Gives view (Err e) r = FailsAs e r
