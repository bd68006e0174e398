-- What is written has no fault where each value is in its range.
use Rattle.std.proofs.Common.{◌≡◌, ◌==◌, ℕ, Bool, true, false, List, [], ◌∷◌, map, Option, Some, None, Result, Ok, Err, refl, ◌∙◌}
use Rattle.al_msgpack.specs.declared.val.Val.{Val}
use Rattle.al_msgpack.specs.declared.val.Val.TheVariants as values
use Rattle.al_msgpack.specs.declared.val.Val.TheViews as views
use Rattle.al_msgpack.specs.declared.val.Entry.{Entry}
use Rattle.al_record.specs.declared.shape.Shape.TheVariants as shapes
use Rattle.al_record.specs.Columns.{FieldOf, number, up_to, flag, text, bytes, array, addresses, inner, inners, Head, rule, rules_of, heads, put, unless, flag_put, is_empty, is_zero_array, with_entry, entries, field_fault, range_fault, table, IsRecord}
use Rattle.al_msgpack.specs.Rising.{rises}
use Rattle.std.specs.Prelude.{IfOk}
use Rattle.al_record.specs.Laws.{InRange}
use Rattle.al_record.proofs.Order.{Rising, rising, same_itself}
use Rattle.al_record.proofs.Fields.{Fitting}
use Rattle.al_record.proofs.Engine.{names, rule_skip}
use Rattle.al_record.proofs.Laws.{keys_above, value_first, range_later}

number_fits : (b : Bool) (n : ℕ) → (n == 0) ≡ b → Fitting shapes.Number (unless b (values.Num n))
number_fits true n h = tt
number_fits false n h = rw (views.outs-Num n, h) refl

up_to_fits : (most : ℕ) (b : Bool) (n : ℕ) → (n == 0) ≡ b → Fitting (shapes.UpTo most) (unless b (values.Num n))
up_to_fits most true n h = tt
up_to_fits most false n h = rw (views.outs-Num n, h) refl

flag_fits : (b : Bool) → Fitting shapes.Flag (flag_put b)
flag_fits true = rw (views.outs-Flag true) refl
flag_fits false = tt

text_fits : (b : Bool) (xs : List ℕ) → is_empty xs ≡ b → Fitting shapes.Text (unless b (values.Str xs))
text_fits true xs h = tt
text_fits false xs h = rw (views.outs-Str xs, h) refl

bytes_fits : (least most : ℕ) (b : Bool) (xs : List ℕ) → is_empty xs ≡ b → Fitting (shapes.Bytes least most) (unless b (values.Bin xs))
bytes_fits least most true xs h = tt
bytes_fits least most false xs h = rw (views.outs-Bin xs, h) refl

array_fits : (len : ℕ) (b : Bool) (xs : List ℕ) → is_zero_array len xs ≡ b → Fitting (shapes.Array len) (unless b (values.Bin xs))
array_fits len true xs h = tt
array_fits len false xs h = rw (views.outs-Bin xs, h) refl

addresses_fits : (most : ℕ) (b : Bool) (vs : List Val) → is_empty vs ≡ b → Fitting (shapes.Addresses most) (unless b (values.List vs))
addresses_fits most true vs h = tt
addresses_fits most false vs h = rw (views.outs-List vs, h) refl

list_fits : (b : Bool) (vs : List Val) → is_empty vs ≡ b → Fitting shapes.List (unless b (values.List vs))
list_fits true vs h = tt
list_fits false vs h = rw (views.outs-List vs, h) refl

map_fits : (b : Bool) (es : List Entry) → is_empty es ≡ b → Fitting shapes.Map (unless b (values.Map es))
map_fits true es h = tt
map_fits false es h = rw (views.outs-Map es, h) refl

put_fits : {X : Type 0} (f : FieldOf X) (x : X) → Fitting (rule f).shape (put f x)
put_fits (number name get) x = number_fits _ (get x) refl
put_fits (up_to name most get) x = up_to_fits most _ (get x) refl
put_fits (flag name get) x = flag_fits (get x)
put_fits (text name get) x = text_fits _ (get x) refl
put_fits (bytes name least most get) x = bytes_fits least most _ (get x) refl
put_fits (array name len get) x = array_fits len _ (get x) refl
put_fits (addresses name most get) x = addresses_fits most _ (map (λ a. values.Bin a) (get x)) refl
put_fits (inner name fault get) x = map_fits _ (get x) refl
put_fits (inners name limit fault get) x = list_fits _ (map (λ es. values.Map es) (get x)) refl

first_fits : (h : Head) (hs : List Head) (o : Option Val) (rest : List Entry) → Fitting h.1 o → field_fault (h ∷ hs) rest ≡ None → field_fault (h ∷ hs) (with_entry h.0 o rest) ≡ None
first_fits h hs None rest f e = e
first_fits h hs (Some v) rest f e = rw (same_itself h.0, f) e

no_field_fault : {X : Type 0} (fs : List (FieldOf X)) (x : X) → Rising (names (heads (rules_of fs))) → field_fault (heads (rules_of fs)) (entries fs x) ≡ None
no_field_fault [] x r = refl
no_field_fault (f ∷ fs) x r =
    let h : Head = ((rule f).name, (rule f).shape) in
    let below = keys_above (rule f).name fs x r.0 in
    first_fits h (heads (rules_of fs)) (put f x) (entries fs x) (put_fits f x) (rule_skip h (heads (rules_of fs)) (entries fs x) below ∙ no_field_fault fs x r.1)

no_range_fault : {X : Type 0} (fs : List (FieldOf X)) (x : X) → Rising (names (heads (rules_of fs))) → InRange fs x → range_fault (rules_of fs) (entries fs x) ≡ None
no_range_fault [] x r i = refl
no_range_fault (f ∷ fs) x r i =
    rw (value_first (rule f).name (put f x) (entries fs x) (keys_above (rule f).name fs x r.0), i.0, range_later (rules_of fs) (rule f).name (put f x) (entries fs x) r.0) (no_range_fault fs x r.1 i.1)

-- a value in its ranges has a record
pub has_record : {X : Type 0} (fs : List (FieldOf X)) (x : X) → rises (names (heads (rules_of fs))) ≡ true → InRange fs x → IsRecord (table fs) x (entries fs x)
has_record fs x r i =
    let up = rising _ r in
    record { fields = refl; sound = rw (no_field_fault fs x up) (no_range_fault fs x up i) }

pub writes_record : {X E : Type 0} (fs : List (FieldOf X)) (x : X) (r : Result (List Entry) E) → rises (names (heads (rules_of fs))) ≡ true → IfOk r (λ es. es ≡ entries fs x) → InRange fs x → IfOk r (λ es. IsRecord (table fs) x es)
writes_record fs x (Ok es) r h i = rw h (has_record fs x r i)
writes_record fs x (Err e) r h i = tt
