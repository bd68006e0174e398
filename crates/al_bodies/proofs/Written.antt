-- What stands under the names of a written record.
use Rattle.std.proofs.Common.{◌≡◌, ◌==◌, ℕ, true, false, List, [], ◌∷◌, Option, Some, None, ◌++◌, OnOk, Result, Ok, Err, refl, sym, ap, subst, ◌∙◌, eq-eqb}
use Rattle.std.specs.Str.{bytes_eq}
use Rattle.al_msgpack.specs.declared.val.Val.{Val}
use Rattle.al_msgpack.specs.declared.val.Val.TheVariants as values
use Rattle.al_msgpack.specs.declared.val.Val.TheViews as views
use Rattle.al_msgpack.specs.declared.val.Entry.{Entry}
use Rattle.al_msgpack.specs.Places.{IsSpelling}
use Rattle.al_msgpack.specs.Rising.{rises}
use Rattle.al_msgpack.specs.Spelled.{spelled}
use Rattle.al_msgpack.proofs.Canonical.{spells_only}
use Rattle.al_record.specs.declared.fault.Fault.{Fault}
use Rattle.al_record.specs.Columns.{FieldOf, rule, rules_of, heads, put, is_empty, value_at, with_entry, entries}
use Rattle.al_record.specs.Kinds.{text_kind, number_kind}
use Rattle.al_record.proofs.Order.{IsLess, IsBelow, Rising, rising, apart_back, same_itself}
use Rattle.al_record.proofs.Engine.{names}
use Rattle.al_record.proofs.Laws.{keys_above, value_first}

-- under each name stands what is put there
abbrev pub AllPut : {X : Type 0} → List (FieldOf X) → X → List Entry → Type 0
AllPut [] x es = Unit {0}
AllPut (f ∷ fs) x es = (value_at (rule f).name es ≡ put f x) × AllPut fs x es

value_later : (name k : List ℕ) (o : Option Val) (rest : List Entry) → IsLess k name → value_at name (with_entry k o rest) ≡ value_at name rest
value_later name k None rest h = refl
value_later name k (Some v) rest h = rw (apart_back k name h) refl

put_later : {X : Type 0} (fs : List (FieldOf X)) (x : X) (k : List ℕ) (o : Option Val) (rest : List Entry) → IsBelow k (names (heads (rules_of fs))) → AllPut fs x rest → AllPut fs x (with_entry k o rest)
put_later [] x k o rest h a = tt
put_later (f ∷ fs) x k o rest h a = (value_later (rule f).name k o rest h.0 ∙ a.0, put_later fs x k o rest h.1 a.1)

put_rising : {X : Type 0} (fs : List (FieldOf X)) (x : X) → Rising (names (heads (rules_of fs))) → AllPut fs x (entries fs x)
put_rising [] x r = tt
put_rising (f ∷ fs) x r =
    let name = (rule f).name in
    (value_first name (put f x) (entries fs x) (keys_above name fs x r.0), put_later fs x name (put f x) (entries fs x) r.0 (put_rising fs x r.1))

pub all_put : {X : Type 0} (fs : List (FieldOf X)) (x : X) → rises (names (heads (rules_of fs))) ≡ true → AllPut fs x (entries fs x)
all_put fs x r = put_rising fs x (rising _ r)

-- the kind that a written word or number names
pub text_named : (name w : List ℕ) (es : List Entry) → value_at name es ≡ Some (values.Str w) → is_empty w ≡ false → text_kind name es ≡ Ok w
text_named name w es h some = rw (h, views.outs-Str w, some) refl

pub number_named : (name : List ℕ) (n : ℕ) (es : List Entry) → value_at name es ≡ Some (values.Num n) → (n == 0) ≡ false → number_kind name es ≡ Ok n
number_named name n es h some = rw (h, views.outs-Num n, some) refl

-- different words, and different numbers, name different kinds
word_in : Result (List ℕ) Fault → List ℕ
word_in (Ok w) = w
word_in (Err f) = []

abbrev word_ok : List ℕ → Result (List ℕ) Fault
word_ok w = Ok w

abbrev number_ok : ℕ → Result ℕ Fault
number_ok n = Ok n

false_true : false ≡ true → ⊥
false_true e = absurd cc

pub words_apart : (v w : List ℕ) → bytes_eq v w ≡ false → word_ok v ≡ word_ok w → ⊥
unfolding word_in
words_apart v w t e =
    let same : v ≡ w = ap word_in e in
    false_true (sym t ∙ ap (bytes_eq v) (sym same) ∙ same_itself v)

number_in : Result ℕ Fault → ℕ
number_in (Ok n) = n
number_in (Err f) = 0

pub numbers_apart : (m n : ℕ) → (m == n) ≡ false → number_ok m ≡ number_ok n → ⊥
unfolding number_in
numbers_apart m n t e =
    let same : m ≡ n = ap number_in e in
    false_true (sym t ∙ eq-eqb m n same)

-- the bytes that a value was read from are its spelling
pub back_from : {E : Type 0} (r : Result (Unit {0}) E) (input : List ℕ) (v : Val) (new old : List ℕ) → IsSpelling v input → OnOk r (new ≡ old ++ spelled v) → OnOk r (new ≡ old ++ input)
back_from r input v new old m h = subst (λ (bytes : List ℕ). OnOk r (new ≡ old ++ bytes)) (spells_only 16 v input m) h
