-- A value that is read is written again.
use Rattle.std.proofs.Common.{◌≡◌, ◌==◌, ℕ, zero, suc, replicate, Bool, true, false, cond, List, [], ◌∷◌, length, map, Option, Some, None, refl, sym, ap, ◌∙◌}
use Rattle.std.specs.List.{list_all}
use Rattle.std.proofs.lemmas.Bool.{not-true, eq-eqb, false≢true, and_parts}
use Rattle.std.proofs.lemmas.List.{length-replicate}
use Rattle.al_msgpack.specs.declared.val.Val.{Val, out-Val}
use Rattle.al_msgpack.specs.declared.val.Val.TheVariants as values
use Rattle.al_msgpack.specs.declared.val.Val.TheOpen.{Val-F}
use Rattle.al_msgpack.specs.declared.val.Val.TheViews as views
use Rattle.al_msgpack.specs.declared.val.Entry.{Entry}
use Rattle.al_record.specs.declared.shape.Shape.{Shape}
use Rattle.al_record.specs.declared.shape.Shape.TheVariants as shapes
use Rattle.al_record.specs.declared.fault.Fault.{Fault}
use Rattle.al_record.specs.Columns.{Open, FieldOf, number, up_to, flag, text, bytes, array, addresses, inner, inners, rule, put, Shows, is_zero_array, is_empty, is_address, is_address_open, address_in, are_addresses, fits, fits_open, number_put, number_in, array_put, array_in, bytes_put, bytes_in, text_put, text_in, flag_put, flag_in, list_put, list_in, map_put, map_in}

abbrev pub Fitting : Shape → Option Val → Type 0
Fitting s None = Unit {0}
Fitting s (Some v) = fits s v ≡ true

within : (b : Bool) (f : Fault) → cond b None (Some f) ≡ None → b ≡ true
within true f h = refl
within false f h = absurd cc

-- a value by its variant
num_is : (n : ℕ) → values.Num n ≡ views.roll-Val (Val-F.Num n)
num_is n = sym (views.roll-out-Val (values.Num n)) ∙ ap views.roll-Val (views.outs-Num n)

flag_is : (b : Bool) → values.Flag b ≡ views.roll-Val (Val-F.Flag b)
flag_is b = sym (views.roll-out-Val (values.Flag b)) ∙ ap views.roll-Val (views.outs-Flag b)

str_is : (b : List ℕ) → values.Str b ≡ views.roll-Val (Val-F.Str b)
str_is b = sym (views.roll-out-Val (values.Str b)) ∙ ap views.roll-Val (views.outs-Str b)

bin_is : (b : List ℕ) → values.Bin b ≡ views.roll-Val (Val-F.Bin b)
bin_is b = sym (views.roll-out-Val (values.Bin b)) ∙ ap views.roll-Val (views.outs-Bin b)

list_is : (vs : List Val) → values.List vs ≡ views.roll-Val (Val-F.List vs)
list_is vs = sym (views.roll-out-Val (values.List vs)) ∙ ap views.roll-Val (views.outs-List vs)

map_is : (es : List Entry) → values.Map es ≡ views.roll-Val (Val-F.Map es)
map_is es = sym (views.roll-out-Val (values.Map es)) ∙ ap views.roll-Val (views.outs-Map es)

back : (o : Option Val) (v : Val) → o ≡ Some (views.roll-Val (out-Val v)) → o ≡ Some v
back o v h = h ∙ ap (λ (x : Val). Some x) (views.roll-out-Val v)

-- each family
number_again : (w : Open) → fits_open shapes.Number w ≡ true → number_put (number_in w) ≡ Some (views.roll-Val w)
number_again (Val-F.Num n) h = let z = not-true (n == 0) h in rw (z, num_is n) refl
number_again w h = absurd (false≢true h)

up_to_again : (most : ℕ) (w : Open) → fits_open (shapes.UpTo most) w ≡ true → number_put (number_in w) ≡ Some (views.roll-Val w)
up_to_again most (Val-F.Num n) h = let z = not-true (n == 0) h in rw (z, num_is n) refl
up_to_again most w h = absurd (false≢true h)

flag_again : (w : Open) → fits_open shapes.Flag w ≡ true → flag_put (flag_in w) ≡ Some (views.roll-Val w)
flag_again (Val-F.Flag b) h = rw (h, flag_is true) refl
flag_again w h = absurd (false≢true h)

text_again : (w : Open) → fits_open shapes.Text w ≡ true → text_put (text_in w) ≡ Some (views.roll-Val w)
text_again (Val-F.Str b) h = let z = not-true (is_empty b) h in rw (z, str_is b) refl
text_again w h = absurd (false≢true h)

bytes_again : (least most : ℕ) (w : Open) → fits_open (shapes.Bytes least most) w ≡ true → bytes_put (bytes_in w) ≡ Some (views.roll-Val w)
bytes_again least most (Val-F.Bin b) h = let z = not-true (is_empty b) h in rw (z, bin_is b) refl
bytes_again least most w h = absurd (false≢true h)

zeros : (n : ℕ) → list_all (λ (b : ℕ). b == 0) (replicate n 0) ≡ true
zeros zero = refl
zeros (suc n) = zeros n

zero_array : (n : ℕ) → is_zero_array n (replicate n 0) ≡ true
zero_array n = rw (eq-eqb (length {A = ℕ} (replicate n 0)) n (length-replicate {A = ℕ} n 0)) (zeros n)

array_again : (n : ℕ) (w : Open) → fits_open (shapes.Array n) w ≡ true → (length (bytes_in w) == n) ≡ true → array_put n (array_in n w) ≡ Some (views.roll-Val w)
array_again n (Val-F.Bin b) h g = let z = not-true (is_zero_array n b) h in rw (g, z, bin_is b) refl
array_again n w h g = absurd (false≢true h)

address_again : (v : Val) (w : Open) → w ≡ out-Val v → is_address_open w ≡ true → values.Bin (array_in 32 w) ≡ v
address_again v (Val-F.Bin b) e h = rw h (bin_is b ∙ ap views.roll-Val e ∙ views.roll-out-Val v)
address_again v w e h = absurd (false≢true h)

addresses_again : (vs : List Val) → list_all is_address vs ≡ true → map (λ a. values.Bin a) (map address_in vs) ≡ vs
addresses_again [] h = refl
addresses_again (v ∷ vs) h =
    let p = and_parts _ _ h in
    rw (address_again v (out-Val v) refl p.0, addresses_again vs p.1) refl

list_again : (w : Open) → fits_open shapes.List w ≡ true → list_put (list_in w) ≡ Some (views.roll-Val w)
list_again (Val-F.List vs) h = let z = not-true (is_empty vs) h in rw z (ap (λ (v : Val). Some v) (list_is vs))
list_again w h = absurd (false≢true h)

map_again : (w : Open) → fits_open shapes.Map w ≡ true → map_put (map_in w) ≡ Some (views.roll-Val w)
map_again (Val-F.Map es) h = let z = not-true (is_empty es) h in rw z (ap (λ (v : Val). Some v) (map_is es))
map_again w h = absurd (false≢true h)

listed_again : (most : ℕ) (w : Open) → fits_open (shapes.Addresses most) w ≡ true → are_addresses most (list_in w) ≡ true → list_put (map (λ a. values.Bin a) (map address_in (list_in w))) ≡ Some (views.roll-Val w)
listed_again most (Val-F.List vs) h g =
    let z = not-true (is_empty vs) h in
    let p = and_parts _ _ g in
    let q = and_parts _ _ p.1 in
    rw (addresses_again vs q.0, z) (ap (λ (v : Val). Some v) (list_is vs))
listed_again most w h g = absurd (false≢true h)

-- a field that shows what stands under its name
pub put_again : {X : Type 0} (f : FieldOf X) (x : X) (o : Option Val) → Shows f x o → Fitting (rule f).shape o → (rule f).fault o ≡ None → put f x ≡ o
put_again (number name get) x None e h g = rw e refl
put_again (number name get) x (Some v) e h g = rw e (back _ v (number_again (out-Val v) h))
put_again (up_to name most get) x None e h g = rw e refl
put_again (up_to name most get) x (Some v) e h g = rw e (back _ v (up_to_again most (out-Val v) h))
put_again (flag name get) x None e h g = rw e refl
put_again (flag name get) x (Some v) e h g = rw e (back _ v (flag_again (out-Val v) h))
put_again (text name get) x None e h g = rw e refl
put_again (text name get) x (Some v) e h g = rw e (back _ v (text_again (out-Val v) h))
put_again (bytes name least most get) x None e h g = rw e refl
put_again (bytes name least most get) x (Some v) e h g = rw e (back _ v (bytes_again least most (out-Val v) h))
put_again (array name len get) x None e h g = rw (e, zero_array len) refl
put_again (array name len get) x (Some v) e h g = rw e (back _ v (array_again len (out-Val v) h (within _ _ g)))
put_again (addresses name most get) x None e h g = rw e refl
put_again (addresses name most get) x (Some v) e h g = rw e (back _ v (listed_again most (out-Val v) h (within _ _ g)))
put_again (inner name fault get) x None e h g = rw e refl
put_again (inner name fault get) x (Some v) e h g = rw e (back _ v (map_again (out-Val v) h))
put_again (inners name limit fault get) x None e h g = rw e refl
put_again (inners name limit fault get) x (Some v) e h g = rw e (back _ v (list_again (out-Val v) h))
