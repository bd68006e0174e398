-- What is written is read again: a record determines its value.
use Rattle.std.proofs.Common.{◌≡◌, ◌==◌, ℕ, replicate, Bool, true, false, cond, List, [], ◌∷◌, length, map, Option, Some, None, refl, sym, ap, ap₂, ◌∙◌}
use Rattle.std.specs.List.{list_all}
use Rattle.std.proofs.lemmas.Bool.{eqb-true, and_parts, cond-true}
use Rattle.al_msgpack.specs.declared.val.Val.{Val}
use Rattle.al_msgpack.specs.declared.val.Val.TheVariants as values
use Rattle.al_msgpack.specs.declared.val.Val.TheViews as views
use Rattle.al_msgpack.specs.declared.val.Entry.{Entry}
use Rattle.al_record.specs.declared.fault.Fault.{Fault}
use Rattle.al_record.specs.declared.shape.Shape.TheVariants as shapes
use Rattle.al_record.specs.Columns.{FieldOf, number, up_to, flag, text, bytes, array, addresses, inner, inners, Rule, in_range, unless, unless_range, number_of, flag_of, flag_put, text_of, bytes_of, list_of, list_put, map_of, rule, rules_of, heads, put, Shows, AllShown, is_zero_array, is_empty, is_address, address_in, are_addresses, number_in, array_in, array_of, bytes_in, text_in, flag_in, list_in, map_in, value_at, with_entry, entries, range_fault, table, IsRecord}
use Rattle.al_msgpack.specs.Rising.{rises, keys}
use Rattle.al_record.proofs.Order.{IsLess, IsBelow, Rising, rising, apart_back, same_itself}
use Rattle.al_record.proofs.Engine.{names, first_none, absent}

within : (b : Bool) (f : Fault) → cond b None (Some f) ≡ None → b ≡ true
within true f h = refl
within false f h = absurd cc

-- each family
empty_back : {A : Type 0} (xs : List A) → is_empty xs ≡ true → xs ≡ []
empty_back [] h = refl
empty_back (x ∷ xs) h = absurd cc

zeros_back : (b : List ℕ) → list_all (λ (x : ℕ). x == 0) b ≡ true → b ≡ replicate (length b) 0
zeros_back [] h = refl
zeros_back (x ∷ b) h =
    let p = and_parts _ _ h in
    ap₂ (λ (y : ℕ) (ys : List ℕ). y ∷ ys) (eqb-true x 0 p.0) (zeros_back b p.1)

array_back : (len : ℕ) (b : List ℕ) → is_zero_array len b ≡ true → b ≡ replicate len 0
array_back len b h =
    let p = and_parts _ _ h in
    zeros_back b p.1 ∙ ap (λ (n : ℕ). replicate n 0) (eqb-true (length b) len p.0)

number_shown : (b : Bool) (n : ℕ) → (n == 0) ≡ b → n ≡ number_of (unless b (values.Num n))
number_shown true n h = eqb-true n 0 h
number_shown false n h = ap number_in (sym (views.outs-Num n))

flag_shown : (b : Bool) → b ≡ flag_of (flag_put b)
flag_shown true = ap flag_in (sym (views.outs-Flag true))
flag_shown false = refl

text_shown : (b : Bool) (xs : List ℕ) → is_empty xs ≡ b → xs ≡ text_of (unless b (values.Str xs))
text_shown true xs h = empty_back xs h
text_shown false xs h = ap text_in (sym (views.outs-Str xs))

bytes_shown : (b : Bool) (xs : List ℕ) → is_empty xs ≡ b → xs ≡ bytes_of (unless b (values.Bin xs))
bytes_shown true xs h = empty_back xs h
bytes_shown false xs h = ap bytes_in (sym (views.outs-Bin xs))

list_shown : (b : Bool) (vs : List Val) → is_empty vs ≡ b → vs ≡ list_of (unless b (values.List vs))
list_shown true vs h = empty_back vs h
list_shown false vs h = ap list_in (sym (views.outs-List vs))

map_shown : (b : Bool) (es : List Entry) → is_empty es ≡ b → es ≡ map_of (unless b (values.Map es))
map_shown true es h = empty_back es h
map_shown false es h = ap map_in (sym (views.outs-Map es))

array_shown : (b : Bool) (name : List ℕ) (len : ℕ) (xs : List ℕ) → is_zero_array len xs ≡ b → unless_range (in_range (shapes.Array len) (unless b (values.Bin xs))) name ≡ None → xs ≡ array_of len (unless b (values.Bin xs))
array_shown true name len xs h g = array_back len xs h
array_shown false name len xs h g =
    let q : (length xs == len) ≡ true = rw (views.outs-Bin xs) at (within _ _ g) in
    sym (cond-true (length xs == len) xs (replicate len 0) q) ∙ ap (array_in len) (sym (views.outs-Bin xs))

addresses_back : (xs : List (List ℕ)) → list_all is_address (map (λ a. values.Bin a) xs) ≡ true → xs ≡ map address_in (map (λ a. values.Bin a) xs)
addresses_back [] h = refl
addresses_back (a ∷ xs) h =
    let p = and_parts (is_address (values.Bin a)) (list_all is_address (map (λ a. values.Bin a) xs)) h in
    let q : (length a == 32) ≡ true = rw (views.outs-Bin a) at p.0 in
    ap₂ (λ (y : List ℕ) (ys : List (List ℕ)). y ∷ ys) (sym (cond-true (length a == 32) a (replicate 32 0) q) ∙ ap (array_in 32) (sym (views.outs-Bin a))) (addresses_back xs p.1)

addresses_shown : (name : List ℕ) (most : ℕ) (xs : List (List ℕ)) (vs : List Val) → vs ≡ map (λ a. values.Bin a) xs → unless_range (in_range (shapes.Addresses most) (list_put vs)) name ≡ None → xs ≡ map address_in (list_of (list_put vs))
addresses_shown name most xs vs e g =
    let back : list_of (list_put vs) ≡ vs = sym (list_shown (is_empty vs) vs refl) in
    let are : are_addresses most vs ≡ true = rw back at (within _ _ g) in
    let all : list_all is_address vs ≡ true = (and_parts _ _ (and_parts _ _ are).1).0 in
    rw (back, e) (addresses_back xs (rw e at all))

entry_above : (k name : List ℕ) (o : Option Val) (rest : List Entry) → IsLess k name → IsBelow k (keys rest) → IsBelow k (keys (with_entry name o rest))
entry_above k name None rest l h = h
entry_above k name (Some v) rest l h = (l, h)

-- what is written shows the value, where it is in range
pub shown_again : {X : Type 0} (f : FieldOf X) (x : X) → (rule f).fault (put f x) ≡ None → Shows f x (put f x)
shown_again (number name get) x g = number_shown _ (get x) refl
shown_again (up_to name most get) x g = number_shown _ (get x) refl
shown_again (flag name get) x g = flag_shown (get x)
shown_again (text name get) x g = text_shown _ (get x) refl
shown_again (bytes name least most get) x g = bytes_shown _ (get x) refl
shown_again (array name len get) x g = array_shown _ name len (get x) refl g
shown_again (addresses name most get) x g = addresses_shown name most (get x) _ refl g
shown_again (inner name fault get) x g = map_shown _ (get x) refl
shown_again (inners name limit fault get) x g = list_shown _ (map (λ es. values.Map es) (get x)) refl

-- the entries stand above what is below the names
pub keys_above : {X : Type 0} (k : List ℕ) (fs : List (FieldOf X)) (x : X) → IsBelow k (names (heads (rules_of fs))) → IsBelow k (keys (entries fs x))
keys_above k [] x h = tt
keys_above k (f ∷ fs) x h = entry_above k (rule f).name (put f x) (entries fs x) h.0 (keys_above k fs x h.1)

pub value_first : (name : List ℕ) (o : Option Val) (rest : List Entry) → IsBelow name (keys rest) → value_at name (with_entry name o rest) ≡ o
value_first name None rest h = absent name rest h
value_first name (Some v) rest h = rw (same_itself name) refl

value_later : (name k : List ℕ) (o : Option Val) (rest : List Entry) → IsLess k name → value_at name (with_entry k o rest) ≡ value_at name rest
value_later name k None rest h = refl
value_later name k (Some v) rest h = rw (apart_back k name h) refl

pub range_later : (rs : List Rule) (k : List ℕ) (o : Option Val) (rest : List Entry) → IsBelow k (names (heads rs)) → range_fault rs (with_entry k o rest) ≡ range_fault rs rest
range_later [] k o rest h = refl
range_later (r ∷ rs) k o rest h = rw (value_later r.name k o rest h.0, range_later rs k o rest h.1) refl

shown_later : {X : Type 0} (fs : List (FieldOf X)) (x : X) (k : List ℕ) (o : Option Val) (rest : List Entry) → IsBelow k (names (heads (rules_of fs))) → AllShown fs x rest → AllShown fs x (with_entry k o rest)
shown_later [] x k o rest h a = tt
shown_later (f ∷ fs) x k o rest h a = (rw (value_later (rule f).name k o rest h.0) a.0, shown_later fs x k o rest h.1 a.1)

pub all_shown : {X : Type 0} (fs : List (FieldOf X)) (x : X) → Rising (names (heads (rules_of fs))) → range_fault (rules_of fs) (entries fs x) ≡ None → AllShown fs x (entries fs x)
all_shown [] x r g = tt
all_shown (f ∷ fs) x r g =
    let name = (rule f).name in
    let k = first_none ((rule f).fault (value_at name (entries (f ∷ fs) x))) (range_fault (rules_of fs) (entries (f ∷ fs) x)) g in
    let first = value_first name (put f x) (entries fs x) (keys_above name fs x r.0) in
    let later = range_later (rules_of fs) name (put f x) (entries fs x) r.0 in
    (rw first (shown_again f x (rw first at k.0)), shown_later fs x name (put f x) (entries fs x) r.0 (all_shown fs x r.1 (sym later ∙ k.1)))

-- a record shows its value
pub record_shows : {X : Type 0} (fs : List (FieldOf X)) (x : X) (es : List Entry) → rises (names (heads (rules_of fs))) ≡ true → IsRecord (table fs) x es → AllShown fs x es
record_shows fs x es r h =
    let g : range_fault (rules_of fs) (entries fs x) ≡ None = rw (← h.fields) (first_none _ _ h.sound).1 in
    rw h.fields (all_shown fs x (rising _ r) g)
